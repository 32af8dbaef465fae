use Rattle.mesh_rows.proofs.Cited.{inside}
use Rattle.mesh_handle.proofs.edits.point_of.Goals as goal

pub returns-in-Ok-clause-inside : goal.returns-in-Ok-clause-inside
returns-in-Ok-clause-inside c = inside c.args.place.now c.in-Ok.p c.in-Ok.ensures.place
