use Rattle.edit_history.proofs.HistoryLaws.{set_law}
use Rattle.edit_history.proofs.laws.solidity_is_of_the_set.Goals as goal

pub returns : goal.returns
returns c = set_law
