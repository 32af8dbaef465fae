use Rattle.del_laws.proofs.Laws.{test_of_cells}
use Rattle.del_laws.proofs.test_of_four_vertices.Goals as goal

pub returns : goal.returns
returns c = test_of_cells
