-- those counted so far and those that are left are all of them
use Rattle.std.proofs.Common.{◌≡◌, ◌+◌, ◌≤◌, drop, length}
use Rattle.mesh_files.specs.Text.{hull_corners}
use Rattle.mesh_files.proofs.report.hull_count.Given as goal

abbrev pub invariant-loop-cell : goal.invariant-loop-cell
invariant-loop-cell l =
    (l.count ≤ l.cell-index) × (l.count + length (hull_corners (drop l.cell-index l.cells)) ≡ length
    (hull_corners l.cells))
