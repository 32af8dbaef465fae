use Rattle.edit_history.proofs.HistoryLaws.{legal_law, replay_law}
use Rattle.edit_history.proofs.KeepsLaw.{keeps_law}
use Rattle.edit_history.proofs.laws.one_thread_is_legal.Goals as goal

pub returns-clause-legal : goal.returns-clause-legal
returns-clause-legal c = legal_law

pub returns-clause-keeps : goal.returns-clause-keeps
returns-clause-keeps c = keeps_law

pub returns-clause-replay : goal.returns-clause-replay
returns-clause-replay c = replay_law
