use Rattle.hanskup.specs.Tries.{IsStill}
use Rattle.tour.proofs.threads.add_cube.Given as goal

abbrev pub invariant-loop-x : goal.invariant-loop-x
invariant-loop-x l = IsStill l.initial.pass l.pass
