use Rattle.std.proofs.lemmas.Result.{IfOk-at_ok}
use Rattle.cell_store.specs.Buckets.{InHand}
use Rattle.cell_store.specs.Shares.{Stands}
use Rattle.worked_cases.proofs.buckets.put.Goals as goal

pub put_bucket-requires : goal.put_bucket-requires
put_bucket-requires c =
    let h = c.in_ok-mesh.mesh.history in
    (h, IfOk-at_ok (λ (hold : InHand). Stands hold h) c.in_ok-hold.ensures c.moved.ensures.stands)
