use Rattle.plain_laws.proofs.PlainLaw.{anchored_is_plain}
use Rattle.plain_laws.proofs.Still.{there_by_last}
use Rattle.plain_laws.proofs.Runs.{some_file_is_anchored}
use Rattle.plain_laws.proofs.anchored_is_plain.Goals as goal

pub returns-clause-plain : goal.returns-clause-plain
returns-clause-plain c = anchored_is_plain

pub returns-clause-met : goal.returns-clause-met
returns-clause-met c = some_file_is_anchored

pub returns-clause-last : goal.returns-clause-last
returns-clause-last c = there_by_last
