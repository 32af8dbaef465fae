use Rattle.command_ends.proofs.Promised.{highest, none_kept, unchanged}
use Rattle.command_ends.proofs.laws.run_by_status.Goals as goal

pub returns-clause-statuses : goal.returns-clause-statuses
returns-clause-statuses c = λ r. (highest r.ends).0

pub returns-clause-of_parts : goal.returns-clause-of_parts
returns-clause-of_parts c = λ r. (highest r.ends).1

pub returns-clause-of_check : goal.returns-clause-of_check
returns-clause-of_check c = λ r. (highest r.ends).2

pub returns-clause-none_kept : goal.returns-clause-none_kept
returns-clause-none_kept c = λ r. none_kept r.ends

pub returns-clause-nothing : goal.returns-clause-nothing
returns-clause-nothing c = λ r. unchanged r.ends

pub returns-clause-to_its_end : goal.returns-clause-to_its_end
returns-clause-to_its_end c = λ r. r.ends.to_its_end
