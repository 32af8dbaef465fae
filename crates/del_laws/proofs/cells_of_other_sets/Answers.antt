use Rattle.del_laws.proofs.Laws.{smaller_set, between_sets}
use Rattle.del_laws.proofs.cells_of_other_sets.Goals as goal

pub returns-clause-smaller : goal.returns-clause-smaller
returns-clause-smaller c = smaller_set

pub returns-clause-between : goal.returns-clause-between
returns-clause-between c = between_sets
