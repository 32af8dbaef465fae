use Rattle.std.proofs.Common.{◌≡◌, take}
use Rattle.std.specs.List.{flat_map}
use Rattle.point_order.specs.Facets.{points_of}
use Rattle.gift_wrap.proofs.near.all_points.Given as goal

abbrev pub invariant-loop-cell : goal.invariant-loop-cell
invariant-loop-cell l = l.points.items ≡ flat_map points_of (take l.cell-index l.cells)
