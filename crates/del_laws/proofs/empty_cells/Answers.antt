use Rattle.del_laws.proofs.Closed.{empty_cells}
use Rattle.del_laws.proofs.empty_cells.Goals as goal

pub returns : goal.returns
returns c = empty_cells
