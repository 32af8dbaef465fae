use Rattle.hanskup.specs.Tries.{IsStill}
use Rattle.tour.proofs.threads.added.Given as goal

abbrev pub invariant-loop : goal.invariant-loop
invariant-loop l = IsStill l.initial.pass l.pass
