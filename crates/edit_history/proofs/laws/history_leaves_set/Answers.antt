use Rattle.edit_history.proofs.HistoryLaws.{leaves_set}
use Rattle.edit_history.proofs.laws.history_leaves_set.Goals as goal

pub returns : goal.returns
returns c = leaves_set
