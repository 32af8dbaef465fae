use Rattle.edit_history.specs.Histories.{replay}
use Rattle.cell_store.proofs.Cited.{stands_shows}
use Rattle.worked_cases.proofs.refills.put.Goals as goal

pub put_turn-requires : goal.put_turn-requires
put_turn-requires c =
    let h = c.in_ok-mesh.mesh.history in
    (replay h, c.keep_only.ensures (replay h) (stands_shows c.into_hold-hold.result h c.into_hold-hold.ensures.stands))
