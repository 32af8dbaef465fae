use Rattle.std.proofs.Common.{◌∙◌}
use Rattle.part_edits.proofs.Keys.{key_out}
use Rattle.part_edits.proofs.work.remove_from.Goals as goal

pub returns : goal.returns
returns c = c.remove.ensures.keys ∙ key_out c.args.p c.args.points.now.keys c.requires
