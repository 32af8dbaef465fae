use Rattle.point_order.specs.Sets.{IsIn}
use Rattle.near_vertex.proofs.search.nearer.Given as goal

-- the nearest one so far is a point of the list
abbrev pub invariant-loop-look : goal.invariant-loop-look
invariant-loop-look l = IsIn l.near l.points
