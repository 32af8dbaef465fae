use Rattle.list_laws.proofs.Counts.{count_of_part, count_of_less}
use Rattle.list_laws.proofs.count_of_part.Goals as goal

pub returns-clause-most : goal.returns-clause-most
returns-clause-most g c = count_of_part _

pub returns-clause-less : goal.returns-clause-less
returns-clause-less g c = count_of_less _
