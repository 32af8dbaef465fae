-- the count so far and the Full cells that are left are all
use Rattle.std.proofs.Common.{◌≡◌, ◌+◌, ◌≤◌, drop, length}
use Rattle.face_list.specs.Faces.{full_cells}
use Rattle.alpha_steps.proofs.steps.full_count.Given as goal

abbrev pub invariant-loop-cell : goal.invariant-loop-cell
invariant-loop-cell l =
    (l.count ≤ l.cell-index) × (l.count + length (full_cells (drop l.cell-index l.cells)) ≡ length (full_cells l.cells))
