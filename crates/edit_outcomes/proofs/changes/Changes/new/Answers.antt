use Rattle.std.proofs.Common.{◌∙◌}
use Rattle.edit_outcomes.proofs.Changing.{lacking_none}
use Rattle.edit_outcomes.proofs.changes.Changes.new.Goals as goal

pub returns : goal.returns
returns c = λ s a. record {
  before = a;
  now = a;
  gone = c.new.ensures.empty ∙ lacking_none s a;
  came = c.new-2.ensures.empty ∙ lacking_none s a;
}
