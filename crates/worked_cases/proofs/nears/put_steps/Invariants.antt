use Rattle.near_vertex.specs.Turns.{ShowsNearWalk}
use Rattle.worked_cases.proofs.nears.put_steps.Given as goal

abbrev pub invariant-loop : goal.invariant-loop
invariant-loop l = ShowsNearWalk l.hold l.walk
