-- the cells so far and those that are still to be found are all of them
use Rattle.std.proofs.Common.{◌≡◌, ◌++◌, [], drop, ◌+◌, ◌∷◌, get_or}
use Rattle.complex_trial.specs.Trial.{full_from}
use Rattle.complex_trial.proofs.trial.push_full_from_two.Given as goal

abbrev pub invariant-loop-k : goal.invariant-loop-k
invariant-loop-k l =
    l.cells.items ++ full_from l.points (get_or l.points l.i 0 ∷ get_or l.points l.j 0 ∷ []) 2 (drop l.k l.points)
    ≡ l.fn.cells.items ++ full_from l.points (get_or l.points l.i 0 ∷ get_or l.points l.j 0 ∷ []) 2
    (drop (l.j + 1) l.points)
