use Rattle.std.proofs.Common.{◌∙◌}
use Rattle.point_history.proofs.Cited.{key_put}
use Rattle.edit_outcomes.proofs.changes.put_in.Goals as goal

pub returns-clause-points : goal.returns-clause-points
returns-clause-points c = c.in_ok-is_new.ensures.keys ∙ key_put c.args.p c.args.points.now.keys
