use Rattle.std.proofs.Common.{List, length}
use Rattle.std.specs.List.Sorted.{IsStrictlySortedBy}
use Rattle.point_order.specs.declared.cell.Cell.{Cell}
use Rattle.mesh_check.specs.declared.gaps.Part.{Part}
use Rattle.mesh_check.specs.Sides.{AreSidesIn, side_cmp}
use Rattle.mesh_check.proofs.Facets.{HasMet}
use Rattle.mesh_check.proofs.gaps.first_open.Given as goal

abbrev pub invariant-loop-first : goal.invariant-loop-first
invariant-loop-first l =
    IsStrictlySortedBy side_cmp l.rest
    × ((part : Part) (cells : List Cell) → AreSidesIn part cells l.fn.sides → HasMet cells l.fn.sides l.rest)

abbrev pub decreases-loop-first : goal.decreases-loop-first
decreases-loop-first l = length l.rest
