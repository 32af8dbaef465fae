use Rattle.near_vertex.proofs.Starts.{NoneBelow}
use Rattle.near_vertex.proofs.search.lowest_point.Given as goal

abbrev pub invariant-loop-b : goal.invariant-loop-b
invariant-loop-b l = NoneBelow l.hold l.b
