use Rattle.grid_claims.specs.Tries.{IsStill}
use Rattle.worked_cases.proofs.beside.taken.Given as goal

abbrev pub invariant-loop : goal.invariant-loop
invariant-loop l = IsStill l.initial.pass l.pass
