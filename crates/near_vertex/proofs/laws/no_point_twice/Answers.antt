use Rattle.near_vertex.proofs.Order.{no_point_twice}
use Rattle.near_vertex.proofs.laws.no_point_twice.Goals as goal

pub returns : goal.returns
returns c = no_point_twice
