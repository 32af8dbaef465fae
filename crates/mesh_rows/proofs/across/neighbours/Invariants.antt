use Rattle.std.proofs.Common.{◌≡◌, ℕ, ◌<◌, length}
use Rattle.std.specs.Prelude.{slice_index_or}
use Rattle.mesh_rows.specs.declared.rows.CellRow.{CellRow}
use Rattle.mesh_rows.specs.Across.{AreAcross, full_at}
use Rattle.mesh_rows.proofs.across.neighbours.Given as goal

-- a row for each of the Full cells so far
abbrev pub invariant-loop-n : goal.invariant-loop-n
invariant-loop-n l =
    (length l.rows.items ≡ l.n)
    × ((i : ℕ) (d : CellRow) → i < l.n → AreAcross l.cells i (full_at l.cells i) (slice_index_or l.rows.items i d))
