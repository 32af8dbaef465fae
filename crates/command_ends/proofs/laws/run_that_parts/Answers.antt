use Rattle.std.proofs.Common.{inl, inr}
use Rattle.command_ends.proofs.MadeAsAsked.{reading}
use Rattle.command_ends.proofs.Promised.{completes, no_alpha, no_index, no_part, parts_front, parts_written}
use Rattle.command_ends.proofs.laws.run_that_parts.Goals as goal

pub returns-clause-no_alpha : goal.returns-clause-no_alpha
returns-clause-no_alpha c = λ r. no_alpha r.ends

pub returns-clause-no_part : goal.returns-clause-no_part
returns-clause-no_part c = λ r. no_part r.ends

pub returns-clause-no_index : goal.returns-clause-no_index
returns-clause-no_index c = λ r. no_index r.ends

pub returns-clause-written : goal.returns-clause-written
returns-clause-written c = λ r. parts_written r.ends

pub returns-clause-front : goal.returns-clause-front
returns-clause-front c = λ r. parts_front r.ends

pub returns-clause-complete : goal.returns-clause-complete
returns-clause-complete c = λ r t w. completes r.ends t (reading r.words (inr (inr (inl w))))
