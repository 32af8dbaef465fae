use Rattle.std.proofs.Common.{◌∙◌}
use Rattle.point_history.proofs.Cited.{key_there}
use Rattle.linked_mesh.proofs.set.has.Goals as goal

pub returns : goal.returns
returns c = c.contains.ensures ∙ key_there c.args.p c.args.points.now.keys
