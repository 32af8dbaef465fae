use Rattle.grid_claims.specs.Tries.{IsStill}
use Rattle.worked_cases.proofs.beside.read_all.Given as goal

abbrev pub invariant-loop-turn : goal.invariant-loop-turn
invariant-loop-turn l = IsStill l.initial.pass l.pass
