-- the cells so far and those that are still to be found are all of them
use Rattle.std.proofs.Common.{◌≡◌, ◌++◌, [], drop}
use Rattle.complex_trial.specs.Trial.{full_from}
use Rattle.complex_trial.proofs.trial.push_full.Given as goal

abbrev pub invariant-loop-i : goal.invariant-loop-i
invariant-loop-i l =
    l.cells.items ++ full_from l.points [] 4 (drop l.i l.points)
    ≡ l.fn.cells.items ++ full_from l.points [] 4 l.points
