-- Rows of a mesh and of a shape, by indices into a list of points.
use Rattle.std.specs.Prelude.{ℕ, List, [], map}
use Rattle.point_order.specs.declared.cell.Cell.{Cell}
use Rattle.point_order.specs.declared.cell.Cell.TheVariants.{Full, Open}
use Rattle.alpha_complex.specs.declared.shape.Kind.{Kind}
use Rattle.text_sheets.specs.Indices.{indices_line}
use Rattle.text_sheets.specs.Lines.{held_line}
use Rattle.mesh_files.specs.declared.rows.Rows.{Rows}
use Rattle.mesh_files.specs.declared.rows.Rows.TheVariants.{Cells, Edges, Triangles, Quads}
use Rattle.mesh_files.specs.Text.{face_line}

-- the line of a cell where it is Full, and nothing where it is Open
abbrev pub full_piece : (List ℕ → List ℕ) → Cell → List ℕ
full_piece line (Full q) = line q
full_piece line (Open t) = []

-- a line for each cell or slot, empty where there is nothing to tell
abbrev pub lines_of_rows : List ℕ → Rows → List (List ℕ)
lines_of_rows points (Cells cells) = map (full_piece (indices_line points)) cells.now
lines_of_rows points (Edges shape) = map (held_line (λ (f : List ℕ × Kind). face_line points f.0 f.1)) shape.now.pairs
lines_of_rows points (Triangles shape) =
    map (held_line (λ (f : List ℕ × Kind). face_line points f.0 f.1)) shape.now.triples
lines_of_rows points (Quads shape) = map (held_line (indices_line points)) shape.now.cells
