-- the cells so far and those that are still to be found are all of them
use Rattle.std.proofs.Common.{◌≡◌, ◌++◌, [], drop, ◌+◌, ◌∷◌, get_or}
use Rattle.complex_trial.specs.Trial.{full_from}
use Rattle.complex_trial.proofs.trial.push_full_from_one.Given as goal

abbrev pub invariant-loop-j : goal.invariant-loop-j
invariant-loop-j l =
    l.cells.items ++ full_from l.points (get_or l.points l.i 0 ∷ []) 3 (drop l.j l.points)
    ≡ l.fn.cells.items ++ full_from l.points (get_or l.points l.i 0 ∷ []) 3 (drop (l.i + 1) l.points)
