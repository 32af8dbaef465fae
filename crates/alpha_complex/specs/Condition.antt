-- Faces that are those of the complex of a solid set.
use Rattle.std.specs.Prelude.{◌≡◌, ℕ, true, List}
use Rattle.point_order.specs.Complex.{complex}
use Rattle.point_order.specs.Sets.{IsAscending}
use Rattle.point_order.specs.Solid.{is_solid}
use Rattle.del_laws.specs.Keys.{AreKeys}
use Rattle.face_list.specs.Faces.{points_in, parts_in, points_with_cells, with_cells_around}
use Rattle.face_list.specs.Seen.{FaceLists}

-- The faces are what is listed of the complex of s, a solid set: its cells, and points, pairs and triples with the
-- cells that contain them.
pub record AreFacesOf (s : List ℕ) (faces : FaceLists) : Type 0 where
  pub ascending : IsAscending s
  pub keys : AreKeys s
  pub solid : is_solid s ≡ true
  pub points : faces.points ≡ points_with_cells (points_in (complex s)) (complex s)
  pub pairs : faces.pairs ≡ with_cells_around (parts_in 2 (complex s)) (complex s)
  pub triples : faces.triples ≡ with_cells_around (parts_in 3 (complex s)) (complex s)
  pub cells : faces.cells ≡ complex s

-- they are those of some solid set
abbrev pub AreFaces : FaceLists → Type 0
AreFaces faces = (s : List ℕ) × AreFacesOf s faces
