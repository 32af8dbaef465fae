use Rattle.hole_laws.proofs.RimCells.{one_gone_each, one_fresh_each}
use Rattle.hole_laws.proofs.new_cells_are_met_once.Goals as goal

pub returns-clause-gone : goal.returns-clause-gone
returns-clause-gone c = one_gone_each

pub returns-clause-fresh : goal.returns-clause-fresh
returns-clause-fresh c = one_fresh_each
