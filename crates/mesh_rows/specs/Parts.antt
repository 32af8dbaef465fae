-- What is told of the solid parts of the complex of the points at given places.
use Rattle.std.specs.Prelude.{◌≡◌, ℕ, ◌<◌, ◌⊎◌, true, List, Option, length, map}
use Rattle.point_order.specs.Solid.{is_solid}
use Rattle.alpha_complex.specs.Shapes.{shape_of}
use Rattle.solid_parts.specs.LeastAlpha.{IsLeastAlpha}
use Rattle.solid_parts.specs.Parts.{AreSolidParts, cells_of_parts}
use Rattle.mesh_rows.specs.declared.parts.PartSizes.{PartSizes}
use Rattle.mesh_rows.specs.declared.rows.Place.{Place}
use Rattle.mesh_rows.specs.declared.rows.CellRow.{CellRow}
use Rattle.mesh_rows.specs.Rows.{cell_row}
use Rattle.mesh_rows.specs.Meshes.{IsSetOf}

-- The least alpha, or none, of the given points, which are solid, at which there are at most k parts.
pub record IsLeastAlphaOf (given : List Place) (k : ℕ) (least : Option ℕ) : Type 0 where
  pub set : List ℕ
  pub of_given : IsSetOf given set
  pub solid : is_solid set ≡ true
  pub is_least : IsLeastAlpha set k least

-- The cells of the solid parts of a set's alpha complex, one part after another, and how many cells each part has.
pub record ArePartRows (s : List ℕ) (alpha : ℕ) (cells : List CellRow) (counts : List ℕ) : Type 0 where
  pub parts : List (List (List ℕ))
  pub are_parts : AreSolidParts (shape_of s alpha).cells parts
  pub cells_are : cells ≡ map (cell_row s) (cells_of_parts parts)
  pub counts_are : counts ≡ map length parts

-- The rows are those of the given points, which are solid.
pub record AreParts (given : List Place) (alpha : ℕ) (cells : List CellRow) (counts : List ℕ) : Type 0 where
  pub set : List ℕ
  pub of_given : IsSetOf given set
  pub solid : is_solid set ≡ true
  pub rows : ArePartRows set alpha cells counts

-- How many rows the parts take.
pub record AreSizesOfParts (given : List Place) (alpha : ℕ) (sizes : PartSizes) : Type 0 where
  pub cells : List CellRow
  pub counts : List ℕ
  pub parts : AreParts given alpha cells counts
  pub cell_count : sizes.cells ≡ length cells
  pub part_count : sizes.parts ≡ length counts

-- some room has fewer rows than parts of these sizes
abbrev pub LacksPartRoom : PartSizes → ℕ → ℕ → Type 0
LacksPartRoom sizes cells counts = (cells < sizes.cells) ⊎ (counts < sizes.parts)
