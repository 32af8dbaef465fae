use Rattle.claim_table.specs.Faces.{buckets_of}
use Rattle.claim_table.specs.Hands.{empty_places}
use Rattle.grid_claims.specs.Looking.{IsPlanning}
use Rattle.grid_claims.proofs.claiming.plan_for.Given as goal

abbrev pub invariant-loop-plan : goal.invariant-loop-plan
invariant-loop-plan l = IsPlanning l.board.shared.table_id (buckets_of l.board.shared.key) l.fn.edit l.initial.hands
    l.hands l.planner

abbrev pub decreases-loop-plan : goal.decreases-loop-plan
decreases-loop-plan l = empty_places l.hands.hold.places
