-- What is near a point that is taken: the cells at it and around it, and their points.
use Rattle.std.specs.Prelude.{◌≡◌, ◌≢◌, ℕ, ◌↔◌, ◌⊎◌, List}
use Rattle.list_laws.specs.Lists.{AreDistinct}
use Rattle.point_order.specs.declared.cell.Cell.{Cell}
use Rattle.point_order.specs.declared.cell.Facet.{Facet}
use Rattle.point_order.specs.Complex.{complex}
use Rattle.point_order.specs.Facets.{facets_of, points_of}
use Rattle.point_order.specs.Sets.{IsIn, IsAscending}
use Rattle.hole_laws.specs.Edits.{GoesFrom}
use Rattle.hole_laws.specs.Others.{IsOtherOf}

-- exactly the cells of the complex of s that have v
abbrev pub IsStar : List ℕ → ℕ → List Cell → Type 0
IsStar s v cells = (c : Cell) → IsIn c cells ↔ (IsIn c (complex s) × IsIn v (points_of c))

-- one of the cells has the point
pub record SomeHasPoint (cells : List Cell) (e : ℕ) : Type 0 where
  pub cell : Cell
  pub among : IsIn cell cells
  pub has : IsIn e (points_of cell)

-- exactly the points of the cells other than v, ascending
pub record ArePointsBut (cells : List Cell) (v : ℕ) (points : List ℕ) : Type 0 where
  pub order : IsAscending points
  pub points_are : (e : ℕ) → IsIn e points ↔ (SomeHasPoint cells e × (e ≢ v))

-- To the old cells were added cells of the complex of s, and among them are all those without v that lie
-- across one of the crossed facets of a cell.
pub record AreAdded (s : List ℕ) (v : ℕ) (Crossed : Cell → Facet → Type 0) (old new : List Cell) : Type 0 where
  pub kept : (c : Cell) → IsIn c old → IsIn c new
  pub listed : (c : Cell) → IsIn c new → IsIn c old ⊎ IsIn c (complex s)
  pub across : (here : Cell) (f : Facet) (c : Cell) → Crossed here f → IsOtherOf (complex s) here f c →
      ¬ (IsIn v (points_of c)) → IsIn c new

-- the facets of one cell that are listed
abbrev pub IsListedOf : Cell → List Facet → Cell → Facet → Type 0
IsListedOf cell facets here f = (here ≡ cell) × IsIn f facets

-- all facets of listed cells
abbrev pub IsOfOne : List Cell → Cell → Facet → Type 0
IsOfOne cells here f = IsIn here cells × IsIn f (facets_of here)

-- exactly the cells that v takes away from the complex of t, each once
pub record AreTaken (t : List ℕ) (v : ℕ) (cells : List Cell) : Type 0 where
  pub goes : (c : Cell) → IsIn c cells ↔ GoesFrom t v c
  pub once : AreDistinct cells
