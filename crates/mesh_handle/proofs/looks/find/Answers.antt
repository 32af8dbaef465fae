use Rattle.mesh_handle.proofs.Places.{outside_one}
use Rattle.mesh_handle.proofs.looks.find.Goals as goal

pub returns-in-Some-clause-first : goal.returns-in-Some-clause-first
returns-in-Some-clause-first c h = absurd (c.in_ok-p.ensures.inside (outside_one c.args.place.now h))

pub returns-in-None-clause-first : goal.returns-in-None-clause-first
returns-in-None-clause-first c h = absurd (c.in_ok-p.ensures.inside (outside_one c.args.place.now h))
