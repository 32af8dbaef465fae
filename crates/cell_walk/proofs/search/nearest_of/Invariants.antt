use Rattle.std.proofs.Common.{◌≡◌, ◌⊎◌}
use Rattle.point_order.specs.Sets.{IsIn}
use Rattle.cell_walk.proofs.search.nearest_of.Given as goal

-- the nearest one so far is the one before, or a point of the list
abbrev pub invariant-loop : goal.invariant-loop
invariant-loop l = (l.near ≡ l.fn.so_far) ⊎ IsIn l.near l.points
