use Rattle.std.proofs.Common.{◌≡◌, map, take}
use Rattle.face_list.specs.Faces.{full_cells}
use Rattle.mesh_rows.specs.Rows.{cell_row}
use Rattle.mesh_rows.proofs.numbers.cells.Given as goal

-- the rows of those of a front
abbrev pub invariant-loop-cell : goal.invariant-loop-cell
invariant-loop-cell l = l.rows.items ≡ map (cell_row l.points) (full_cells (take l.cell-index l.all))
