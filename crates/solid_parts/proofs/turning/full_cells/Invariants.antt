-- the cells before the place
use Rattle.std.proofs.Common.{◌≡◌, map, take}
use Rattle.point_order.specs.declared.cell.Cell.TheVariants.{Full}
use Rattle.solid_parts.proofs.turning.full_cells.Given as goal

abbrev pub invariant-loop-quad : goal.invariant-loop-quad
invariant-loop-quad l = l.cells.items ≡ map Full (take l.quad-index l.quads)
