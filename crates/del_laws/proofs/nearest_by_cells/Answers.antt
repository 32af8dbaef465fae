use Rattle.del_laws.proofs.NearestPoints.{nearest_by_cells}
use Rattle.del_laws.proofs.nearest_by_cells.Goals as goal

pub returns : goal.returns
returns c = nearest_by_cells
