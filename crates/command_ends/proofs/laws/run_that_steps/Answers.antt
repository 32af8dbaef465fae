use Rattle.std.proofs.Common.{inl, inr}
use Rattle.command_ends.proofs.Promised.{completes_plainly, of_steps, steps_front, steps_written}
use Rattle.command_ends.proofs.laws.run_that_steps.Goals as goal

pub returns-clause-statuses : goal.returns-clause-statuses
returns-clause-statuses c = λ r w. (of_steps r.ends w).statuses

pub returns-clause-written : goal.returns-clause-written
returns-clause-written c = λ r. steps_written r.ends

pub returns-clause-front : goal.returns-clause-front
returns-clause-front c = λ r. steps_front r.ends

pub returns-clause-complete : goal.returns-clause-complete
returns-clause-complete c = λ r t w. completes_plainly r.ends t (inr (inl w))
