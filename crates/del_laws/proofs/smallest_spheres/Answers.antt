use Rattle.del_laws.proofs.EmptySpheres.{cells_are_empty, edge_by_cells, triangle_by_cells}
use Rattle.del_laws.proofs.smallest_spheres.Goals as goal

pub returns-clause-cell : goal.returns-clause-cell
returns-clause-cell c = cells_are_empty

pub returns-clause-edge : goal.returns-clause-edge
returns-clause-edge c = edge_by_cells

pub returns-clause-triangle : goal.returns-clause-triangle
returns-clause-triangle c = triangle_by_cells
