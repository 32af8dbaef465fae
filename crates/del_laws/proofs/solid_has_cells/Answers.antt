use Rattle.del_laws.proofs.Laws.{solid_has_cells}
use Rattle.del_laws.proofs.solid_has_cells.Goals as goal

pub returns : goal.returns
returns c = solid_has_cells
