use Rattle.edit_outcomes.proofs.Outcomes.{entries_leave, entries_reply}
use Rattle.edit_outcomes.proofs.laws.entries_as_told.Goals as goal

pub returns-clause-replies : goal.returns-clause-replies
returns-clause-replies c = entries_reply

pub returns-clause-left : goal.returns-clause-left
returns-clause-left c = entries_leave
