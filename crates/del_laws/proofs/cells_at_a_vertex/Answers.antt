use Rattle.del_laws.proofs.Closed.{cells_at_a_vertex}
use Rattle.del_laws.proofs.cells_at_a_vertex.Goals as goal

pub returns : goal.returns
returns c = cells_at_a_vertex
