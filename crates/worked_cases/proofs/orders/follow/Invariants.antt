use Rattle.grid_claims.specs.Tries.{IsStill}
use Rattle.worked_cases.proofs.orders.follow.Given as goal

abbrev pub invariant-loop-word : goal.invariant-loop-word
invariant-loop-word l = IsStill l.initial.pass l.pass
