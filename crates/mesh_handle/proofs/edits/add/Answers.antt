use Rattle.mesh_handle.proofs.Places.{outside_one}
use Rattle.mesh_handle.proofs.edits.add.Goals as goal

pub returns-clause-first : goal.returns-clause-first
returns-clause-first c h = absurd (c.in_ok-p.ensures.inside (outside_one c.args.place.now h))
