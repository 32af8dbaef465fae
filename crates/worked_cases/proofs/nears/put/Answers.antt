use Rattle.edit_history.specs.Histories.{replay}
use Rattle.cell_store.proofs.Cited.{stands_shows}
use Rattle.worked_cases.proofs.nears.put.Goals as goal

pub put_walk-requires : goal.put_walk-requires
put_walk-requires c =
    let h = c.in_ok-mesh.mesh.history in
    (replay h, c.keep_only.ensures (replay h) (stands_shows c.into_hold-hold.result h c.into_hold-hold.ensures.stands))
