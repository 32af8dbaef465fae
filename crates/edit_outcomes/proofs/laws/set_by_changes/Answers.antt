use Rattle.edit_outcomes.proofs.Outcomes.{by_changes}
use Rattle.edit_outcomes.proofs.laws.set_by_changes.Goals as goal

pub returns : goal.returns
returns c = by_changes
