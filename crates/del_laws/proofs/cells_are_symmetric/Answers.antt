use Rattle.del_laws.proofs.Laws.{swap_first, swap_middle, swap_last}
use Rattle.del_laws.proofs.cells_are_symmetric.Goals as goal

pub returns-clause-first : goal.returns-clause-first
returns-clause-first c = swap_first

pub returns-clause-middle : goal.returns-clause-middle
returns-clause-middle c = swap_middle

pub returns-clause-last : goal.returns-clause-last
returns-clause-last c = swap_last
