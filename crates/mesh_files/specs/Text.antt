-- The text of a report.
use Rattle.std.specs.Prelude.{ℕ, List, [], ◌∷◌, ◌++◌, map, codes, decimal, Option, None, Some}
use Rattle.std.specs.List.{concat}
use Rattle.point_order.specs.Coordinates.{x_of, y_of, z_of}
use Rattle.point_order.specs.declared.cell.Cell.{Cell}
use Rattle.point_order.specs.declared.cell.Cell.TheVariants.{Full, Open}
use Rattle.edit_history.specs.declared.history.Reply.{Reply}
use Rattle.edit_history.specs.declared.history.Reply.TheVariants.{Inserted, Duplicate, Removed, Missing, Flat, Moved}
use Rattle.edit_history.specs.declared.history.Reply.TheVariants.{Occupied}
use Rattle.mesh_reader.specs.Grammar.{reply_word}
use Rattle.alpha_complex.specs.declared.shape.Kind.{Kind}
use Rattle.alpha_complex.specs.declared.shape.Kind.TheVariants.{Singular, Regular, Interior}
use Rattle.alpha_complex.specs.Shapes.{ShapeParts}
use Rattle.text_sheets.specs.Indices.{index_of, indices_line}
use Rattle.text_sheets.specs.Lines.{block, numbers_line}

-- what a report tells: the reply to each line, the points ascending, the cells in their order, a shape for each
-- radius, in order, and the tags of the history where they are asked for
pub record ReportParts : Type 0 where
  pub replies : List Reply
  pub points : List ℕ
  pub cells : List Cell
  pub shapes : List (ℕ × ShapeParts)
  pub order : Option (List ℕ)

abbrev pub reply_line : Reply → List ℕ
reply_line reply = reply_word reply ++ codes "\n"

abbrev pub point_line : ℕ → List ℕ
point_line p = numbers_line (x_of p ∷ y_of p ∷ z_of p ∷ [])

-- the points of the Full cells, cell by cell
abbrev pub full_corners : List Cell → List (List ℕ)
full_corners [] = []
full_corners (Full q ∷ cells) = q ∷ full_corners cells
full_corners (Open t ∷ cells) = full_corners cells

-- the points of the Open cells, cell by cell
abbrev pub hull_corners : List Cell → List (List ℕ)
hull_corners [] = []
hull_corners (Full q ∷ cells) = hull_corners cells
hull_corners (Open t ∷ cells) = t ∷ hull_corners cells

abbrev pub kind_word : Kind → List ℕ
kind_word Singular = codes "singular"
kind_word Regular = codes "regular"
kind_word Interior = codes "interior"

-- the points of a face as indices, each with a space behind it, and then its kind
abbrev pub face_line : List ℕ → List ℕ → Kind → List ℕ
face_line points corners kind =
    concat (map (λ p. decimal (index_of points p) ++ codes " ") corners) ++ kind_word kind ++ codes "\n"

-- the points of a list of points with their kinds
abbrev pub points_of_faces : List (ℕ × Kind) → List ℕ
points_of_faces faces = map (λ p. p.0) faces

-- the points of a shape, by which its block counts
abbrev pub counted_points : ShapeParts → List ℕ
counted_points shape = points_of_faces shape.points

-- the faces of a shape, kind by kind, as indices into a list of points
unfoldable pub face_blocks : List ℕ → ShapeParts → List ℕ
face_blocks points shape =
    block (codes "points") (map (λ f. face_line points (f.0 ∷ []) f.1) shape.points)
    ++ block (codes "edges") (map (λ f. face_line points f.0 f.1) shape.pairs)
    ++ block (codes "triangles") (map (λ f. face_line points f.0 f.1) shape.triples)
    ++ block (codes "cells") (map (indices_line points) shape.cells)

-- the block of a radius, which counts the shape's own points
unfoldable pub shape_text : ℕ → ShapeParts → List ℕ
shape_text radius shape = codes "shape " ++ decimal radius ++ codes "\n" ++ face_blocks (counted_points shape) shape

-- one block for each radius, in their order
abbrev pub shape_blocks : List (ℕ × ShapeParts) → List ℕ
shape_blocks shapes = concat (map (λ s. shape_text s.0 s.1) shapes)

abbrev pub tag_line : ℕ → List ℕ
tag_line tag = numbers_line (tag ∷ [])

-- the order block, where it is asked for
abbrev pub order_block : Option (List ℕ) → List ℕ
order_block None = []
order_block (Some tags) = block (codes "order") (map tag_line tags)

-- the blocks of the mesh: replies, points, cells and hull
unfoldable pub mesh_blocks : ReportParts → List ℕ
mesh_blocks r =
    block (codes "replies") (map reply_line r.replies)
    ++ block (codes "points") (map point_line r.points)
    ++ block (codes "cells") (map (indices_line r.points) (full_corners r.cells))
    ++ block (codes "hull") (map (indices_line r.points) (hull_corners r.cells))

-- the text of a report, version 1
unfoldable pub report_text : ReportParts → List ℕ
report_text r = codes "mesh3-out 1\n" ++ mesh_blocks r ++ shape_blocks r.shapes ++ order_block r.order ++ codes "end\n"
