use Rattle.std.proofs.Common.{◌≡◌, map, take}
use Rattle.solid_parts.specs.Parts.{cells_of_parts}
use Rattle.solid_parts.specs.Seen.{parts_seen}
use Rattle.mesh_rows.specs.Rows.{cell_row}
use Rattle.mesh_rows.proofs.parts.cells_of.Given as goal

-- the rows of a front
abbrev pub invariant-loop-part : goal.invariant-loop-part
invariant-loop-part l =
    l.rows.items ≡ map (cell_row l.points) (cells_of_parts (parts_seen (take l.part-index l.parts)))
