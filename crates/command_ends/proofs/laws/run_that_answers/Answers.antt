use Rattle.std.proofs.Common.{inr}
use Rattle.command_ends.proofs.Promised.{completes_plainly, near_front, near_written, of_near}
use Rattle.command_ends.proofs.laws.run_that_answers.Goals as goal

pub returns-clause-statuses : goal.returns-clause-statuses
returns-clause-statuses c = λ r w. (of_near r.ends w).statuses

pub returns-clause-written : goal.returns-clause-written
returns-clause-written c = λ r. near_written r.ends

pub returns-clause-front : goal.returns-clause-front
returns-clause-front c = λ r. near_front r.ends

pub returns-clause-complete : goal.returns-clause-complete
returns-clause-complete c = λ r t w. completes_plainly r.ends t (inr (inr w))
