use Rattle.cell_walk.specs.Paths.{ShowsWalk}
use Rattle.worked_cases.proofs.walks.put_steps.Given as goal

abbrev pub invariant-loop : goal.invariant-loop
invariant-loop l = ShowsWalk l.hold l.walk
