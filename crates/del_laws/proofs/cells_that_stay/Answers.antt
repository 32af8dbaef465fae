use Rattle.del_laws.proofs.Laws.{full_stays_law, open_stays_law}
use Rattle.del_laws.proofs.cells_that_stay.Goals as goal

pub returns-clause-full : goal.returns-clause-full
returns-clause-full c = full_stays_law

pub returns-clause-open : goal.returns-clause-open
returns-clause-open c = open_stays_law
