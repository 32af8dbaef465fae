use Rattle.std.proofs.Common.{◌≡◌, ◌≤◌, length, take}
use Rattle.face_list.specs.Faces.{full_cells}
use Rattle.mesh_rows.proofs.levels.full_count.Given as goal

-- the Full cells of a front, of which there are no more than it has cells
abbrev pub invariant-loop-cell : goal.invariant-loop-cell
invariant-loop-cell l =
    (l.count ≤ l.cell-index) × (l.count ≡ length (full_cells (take l.cell-index l.cells)))
