use Rattle.std.proofs.Common.{◌∙◌}
use Rattle.edit_outcomes.proofs.Changing.{key_out}
use Rattle.edit_outcomes.proofs.changes.take_out.Goals as goal

pub returns-clause-points : goal.returns-clause-points
returns-clause-points c = λ a. c.remove.ensures.keys ∙ key_out c.args.p c.args.points.now.keys a
