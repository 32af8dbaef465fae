-- those counted so far and those that are left are all of them
use Rattle.std.proofs.Common.{◌≡◌, ◌+◌, ◌≤◌, drop, length}
use Rattle.mesh_files.specs.Text.{full_corners}
use Rattle.mesh_files.proofs.report.full_count.Given as goal

abbrev pub invariant-loop-cell : goal.invariant-loop-cell
invariant-loop-cell l =
    (l.count ≤ l.cell-index) × (l.count + length (full_corners (drop l.cell-index l.cells)) ≡ length
    (full_corners l.cells))
