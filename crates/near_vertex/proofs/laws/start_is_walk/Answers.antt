use Rattle.near_vertex.proofs.Starts.{start_is_walk}
use Rattle.near_vertex.proofs.laws.start_is_walk.Goals as goal

pub returns : goal.returns
returns c = start_is_walk
