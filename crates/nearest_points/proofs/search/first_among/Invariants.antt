use Rattle.std.proofs.Common.{◌≡◌, ◌∷◌, take}
use Rattle.whole_ring.specs.Bounds.{IsWithin}
use Rattle.point_order.specs.Orientation.{distance}
use Rattle.point_order.specs.Sizes.{greatest_square}
use Rattle.nearest_points.specs.Points.{IsFirstOf}
use Rattle.nearest_points.proofs.search.first_among.Given as goal

-- the first so far, and the square of its distance
abbrev pub invariant-loop-x : goal.invariant-loop-x
invariant-loop-x l =
    IsFirstOf l.q (l.fn.p ∷ take l.x-index l.points) l.first × (l.least ≡ distance l.q l.first)
    × IsWithin greatest_square l.least
