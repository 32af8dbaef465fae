use Rattle.mesh_reader.proofs.Order.{mesh_order}
use Rattle.mesh_reader.proofs.laws.mesh_is_in_order.Goals as goal

pub returns : goal.returns
returns c = mesh_order
