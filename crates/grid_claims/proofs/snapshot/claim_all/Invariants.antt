use Rattle.claim_table.specs.Faces.{buckets_of}
use Rattle.claim_table.specs.Showing.{IsClaimingAll}
use Rattle.grid_claims.proofs.snapshot.claim_all.Given as goal

abbrev pub invariant-loop-b : goal.invariant-loop-b
invariant-loop-b l = IsClaimingAll l.board.shared.table_id (buckets_of l.board.shared.key) l.initial.hands l.hands l.b
