-- The link of a face of the complex of a set: the other points of the cells that contain the face.
use Rattle.std.specs.Prelude.{ℕ, not, List}
use Rattle.std.specs.List.{filter, flat_map}
use Rattle.list_laws.specs.Lists.{AreDistinct}
use Rattle.point_order.specs.declared.cell.Cell.{Cell}
use Rattle.point_order.specs.declared.cell.Cell.TheVariants.{Full}
use Rattle.point_order.specs.Facets.{points_of}
use Rattle.point_order.specs.Sets.{IsIn, is_among}
use Rattle.point_order.specs.Complex.{complex}
use Rattle.face_list.specs.Faces.{cells_with}

-- A face of the complex of s: different points of one Full cell, in any order.
pub record IsFace (s face : List ℕ) : Type 0 where
  pub cell : List ℕ
  pub listed : IsIn (Full cell) (complex s)
  pub inside : (p : ℕ) → IsIn p face → IsIn p cell
  pub distinct : AreDistinct face

-- the points of cells that are none of the face's: its link, where the cells are
-- those that contain the face, Open ones too
abbrev pub link_of : List ℕ → List Cell → List ℕ
link_of face cells = filter (λ p. not (is_among p face)) (flat_map points_of cells)

-- The list has exactly the points of the link of the face in the complex of s, in any order and any number of times.
pub record IsLink (s face link : List ℕ) : Type 0 where
  pub all : (p : ℕ) → IsIn p (link_of face (cells_with face (complex s))) → IsIn p link
  pub only : (p : ℕ) → IsIn p link → IsIn p (link_of face (cells_with face (complex s)))
