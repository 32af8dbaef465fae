use Rattle.std.proofs.Common.{◌∙◌}
use Rattle.point_history.proofs.Cited.{key_there}
use Rattle.part_edits.proofs.change.has.Goals as goal

pub returns : goal.returns
returns c = c.contains.ensures ∙ key_there c.args.p c.args.known.now.keys
