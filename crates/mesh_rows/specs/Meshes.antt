-- What the calls answer of the points at given places.
use Rattle.std.specs.Prelude.{◌≡◌, ℕ, ◌<◌, ◌≤◌, ◌^◌, ◌⊎◌, ◌↔◌, true, false, List, [], ◌∷◌, length, map}
use Rattle.std.specs.List.{AllZip}
use Rattle.point_order.specs.declared.cell.Cell.{Cell}
use Rattle.point_order.specs.Complex.{complex}
use Rattle.point_order.specs.Sets.{IsIn}
use Rattle.point_order.specs.Solid.{is_solid}
use Rattle.hole_laws.specs.Edits.{IsSet}
use Rattle.face_list.specs.Faces.{full_cells, parts_in}
use Rattle.alpha_complex.specs.Admitted.{is_admitted}
use Rattle.alpha_complex.specs.Leasts.{IsLeastOf}
use Rattle.alpha_complex.specs.Told.{TellsFace}
use Rattle.alpha_complex.specs.declared.numbers.FaceAlphas.{FaceAlphas}
use Rattle.mesh_rows.specs.declared.rows.Place.{Place}
use Rattle.mesh_rows.specs.declared.rows.EdgeRow.{EdgeRow}
use Rattle.mesh_rows.specs.declared.rows.TriangleRow.{TriangleRow}
use Rattle.mesh_rows.specs.declared.rows.CellRow.{CellRow}
use Rattle.mesh_rows.specs.declared.rows.MeshSizes.{MeshSizes}
use Rattle.mesh_rows.specs.declared.rows.FaceSizes.{FaceSizes}
use Rattle.mesh_rows.specs.declared.stop.Stop.{Stop}
use Rattle.mesh_rows.specs.declared.stop.Stop.TheVariants.{Memory, Outside, Flat, Full}
use Rattle.mesh_rows.specs.Rows.{point_place, LiesOutside, edge_row, triangle_row, cell_row, open_cells}
use Rattle.mesh_rows.specs.Across.{AreNeighbours}

-- The set has exactly the points at the given places, each once, ascending.
pub record IsSetOf (given : List Place) (s : List ℕ) : Type 0 where
  pub set : IsSet s
  pub places : (p : Place) → IsIn p given ↔ IsIn p (map point_place s)

-- some given place is that of no point
abbrev pub HasOutside : List Place → Type 0
HasOutside given = (p : Place) × IsIn p given × LiesOutside p

-- no four of the given points are independent
abbrev pub AreFlat : List Place → Type 0
AreFlat given = (s : List ℕ) × IsSetOf given s × (is_solid s ≡ false)

-- the given points, or the cells of their complex, are 2^32 or more
abbrev pub AreMany : List Place → Type 0
AreMany given = (s : List ℕ) × IsSetOf given s × ((2 ^ 32 ≤ length s) ⊎ (2 ^ 32 ≤ length (complex s)))

-- why nothing is made; memory may be wanting at any time
abbrev pub IsStopCause : List Place → Stop → Type 0
IsStopCause given Memory = Unit {0}
IsStopCause given Outside = HasOutside given
IsStopCause given Flat = AreFlat given
IsStopCause given Full = AreMany given

-- A solid set, and the cells of its complex, few enough for their numbers.
pub record IsCloud (s : List ℕ) (cells : List Cell) : Type 0 where
  pub set : IsSet s
  pub solid : is_solid s ≡ true
  pub cells_are : cells ≡ complex s
  pub few_points : length s < 2 ^ 32
  pub few_cells : length cells < 2 ^ 32

-- The rows of a set and of its complex.
pub record AreMeshRows (s : List ℕ) (points : List Place) (cells neighbours : List CellRow)
    (hull : List TriangleRow) : Type 0 where
  pub points_are : points ≡ map point_place s
  pub cells_are : cells ≡ map (cell_row s) (full_cells (complex s))
  pub neighbours_are : AreNeighbours (complex s) neighbours
  pub hull_is : hull ≡ map (triangle_row s) (open_cells (complex s))

-- The rows are those of the given points, which are solid, and of their complex.
pub record IsMesh (given points : List Place) (cells neighbours : List CellRow) (hull : List TriangleRow) : Type 0 where
  pub set : List ℕ
  pub of_given : IsSetOf given set
  pub solid : is_solid set ≡ true
  pub rows : AreMeshRows set points cells neighbours hull

-- the number of each Full cell is the least alpha at which it is admitted
abbrev pub AreCellAlphas : List ℕ → List ℕ → Type 0
AreCellAlphas s alphas = AllZip (λ q n. IsLeastOf (λ alpha. is_admitted s alpha q) n) (full_cells (complex s)) alphas

-- The faces of the complex of a set, and the least alphas of each.
pub record AreFaceRows (s : List ℕ) (point_alphas : List FaceAlphas) (edges : List EdgeRow)
    (edge_alphas : List FaceAlphas) (triangles : List TriangleRow) (triangle_alphas : List FaceAlphas)
    (cell_alphas : List ℕ) : Type 0 where
  pub of_points : AllZip (λ p a. TellsFace s (p ∷ []) a) s point_alphas
  pub edges_are : edges ≡ map (edge_row s) (parts_in 2 (complex s))
  pub of_edges : AllZip (TellsFace s) (parts_in 2 (complex s)) edge_alphas
  pub triangles_are : triangles ≡ map (triangle_row s) (parts_in 3 (complex s))
  pub of_triangles : AllZip (TellsFace s) (parts_in 3 (complex s)) triangle_alphas
  pub of_cells : AreCellAlphas s cell_alphas

-- The rows are those of the faces of the complex of the given points, which are solid.
pub record AreFiltered (given : List Place) (point_alphas : List FaceAlphas) (edges : List EdgeRow)
    (edge_alphas : List FaceAlphas) (triangles : List TriangleRow) (triangle_alphas : List FaceAlphas)
    (cell_alphas : List ℕ) : Type 0 where
  pub set : List ℕ
  pub of_given : IsSetOf given set
  pub solid : is_solid set ≡ true
  pub rows : AreFaceRows set point_alphas edges edge_alphas triangles triangle_alphas cell_alphas

-- How many rows the mesh of the given points takes.
pub record AreSizesOfMesh (given : List Place) (sizes : MeshSizes) : Type 0 where
  pub points : List Place
  pub cells : List CellRow
  pub neighbours : List CellRow
  pub hull : List TriangleRow
  pub mesh : IsMesh given points cells neighbours hull
  pub point_count : sizes.points ≡ length points
  pub cell_count : sizes.cells ≡ length cells
  pub hull_count : sizes.hull ≡ length hull

-- How many rows the faces of the given points' complex take.
pub record AreSizesOfFaces (given : List Place) (sizes : FaceSizes) : Type 0 where
  pub point_alphas : List FaceAlphas
  pub edges : List EdgeRow
  pub edge_alphas : List FaceAlphas
  pub triangles : List TriangleRow
  pub triangle_alphas : List FaceAlphas
  pub cell_alphas : List ℕ
  pub faces : AreFiltered given point_alphas edges edge_alphas triangles triangle_alphas cell_alphas
  pub point_count : sizes.points ≡ length point_alphas
  pub edge_count : sizes.edges ≡ length edges
  pub triangle_count : sizes.triangles ≡ length triangles
  pub cell_count : sizes.cells ≡ length cell_alphas
