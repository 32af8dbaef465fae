use Rattle.std.proofs.Common.{◌≡◌, ◌++◌, map, take}
use Rattle.mesh_rows.specs.Rows.{cell_row}
use Rattle.mesh_rows.proofs.parts.put_part.Given as goal

-- the rows of a front behind the others
abbrev pub invariant-loop-quad : goal.invariant-loop-quad
invariant-loop-quad l =
    l.rows.items ≡ l.fn.rows.items ++ map (cell_row l.points) (take l.quad-index l.part.cells.items)
