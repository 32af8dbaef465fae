use Rattle.std.proofs.Common.{◌≡◌, map, take}
use Rattle.mesh_rows.specs.Rows.{open_cells, triangle_row}
use Rattle.mesh_rows.proofs.numbers.hull.Given as goal

-- the rows of those of a front
abbrev pub invariant-loop-cell : goal.invariant-loop-cell
invariant-loop-cell l = l.rows.items ≡ map (triangle_row l.points) (open_cells (take l.cell-index l.all))
