use Rattle.del_laws.proofs.Laws.{closer_across, farther_across}
use Rattle.del_laws.proofs.crossing_a_facet.Goals as goal

pub returns-clause-closer : goal.returns-clause-closer
returns-clause-closer c = closer_across

pub returns-clause-farther : goal.returns-clause-farther
returns-clause-farther c = farther_across
