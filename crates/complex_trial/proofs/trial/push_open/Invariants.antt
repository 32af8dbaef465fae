-- the cells so far and those that are still to be found are all of them
use Rattle.std.proofs.Common.{◌≡◌, ◌++◌, [], drop}
use Rattle.complex_trial.specs.Trial.{open_from}
use Rattle.complex_trial.proofs.trial.push_open.Given as goal

abbrev pub invariant-loop-i : goal.invariant-loop-i
invariant-loop-i l =
    l.cells.items ++ open_from l.points [] 3 (drop l.i l.points)
    ≡ l.fn.cells.items ++ open_from l.points [] 3 l.points
