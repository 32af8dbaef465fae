use Rattle.cloud_cells.proofs.threads.put_some.Goals as goal

pub put_points-requires : goal.put_points-requires
put_points-requires c = rw c.deref.ensures.value c.requires
