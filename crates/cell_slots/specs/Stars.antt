-- The star of a point: the cells at it, found by crossing the facets that have it.
use Rattle.std.specs.Prelude.{ℕ, ◌+◌, ◌≤◌, ◌↔◌, ◌⊎◌, List, ◌++◌, Option, length}
use Rattle.list_laws.specs.Lists.{AreDistinct}
use Rattle.point_order.specs.declared.cell.Cell.{Cell}
use Rattle.point_order.specs.declared.cell.Facet.{Facet}
use Rattle.point_order.specs.Complex.{complex}
use Rattle.point_order.specs.Facets.{facets_of, points_on}
use Rattle.point_order.specs.Sets.{IsIn}
use Rattle.hole_laws.specs.Others.{IsOtherOf}
use Rattle.hole_laws.specs.Stars.{IsCellAt}
use Rattle.cell_slots.specs.Nets.{cells_of_slots}

-- the slots have room for n cells besides theirs
abbrev pub HaveRoom : List (Option Cell) → ℕ → Type 0
HaveRoom slots n = length (cells_of_slots slots) + n ≤ length slots

-- exactly the cells of s at v, each once
pub record AreStarOf (s : List ℕ) (v : ℕ) (cells : List Cell) : Type 0 where
  pub star_is : (q : Cell) → IsIn q cells ↔ IsCellAt s v q
  pub once : AreDistinct cells

-- some facets of found cells were crossed: all these are at v, and so is each cell at v found behind a crossed facet
-- that has v
pub record AreCrossedAround (s : List ℕ) (v : ℕ) (crossed : List Facet) (found : List Cell) : Type 0 where
  pub at : (q : Cell) → IsIn q found → IsCellAt s v q
  pub behind : (f : Facet) (q : Cell) → IsIn f crossed → IsIn v (points_on f) → IsCellAt s v q → IsIn f (facets_of q) →
      IsIn q found

-- after the facet was crossed, it is one of those crossed
abbrev pub CrossesAround : List ℕ → ℕ → List Facet → List Cell → List Cell → Type 0
CrossesAround s v facets found found' =
    (crossed : List Facet) → AreCrossedAround s v crossed found → AreCrossedAround s v (crossed ++ facets) found'

-- To old cells were added cells of s, and among them are those behind the facets of a cell.
pub record AreBehind (s : List ℕ) (here : Cell) (facets : List Facet) (old new : List Cell) : Type 0 where
  pub kept : (c : Cell) → IsIn c old → IsIn c new
  pub listed : (c : Cell) → IsIn c new → IsIn c old ⊎ IsIn c (complex s)
  pub across : (f : Facet) (c : Cell) → IsIn f facets → IsOtherOf (complex s) here f c → IsIn c new

-- and those behind the facets of each of some cells
pub record AreBehindAll (s : List ℕ) (cells old new : List Cell) : Type 0 where
  pub kept : (c : Cell) → IsIn c old → IsIn c new
  pub listed : (c : Cell) → IsIn c new → IsIn c old ⊎ IsIn c (complex s)
  pub across : (here : Cell) (f : Facet) (c : Cell) → IsIn here cells → IsIn f (facets_of here) →
      IsOtherOf (complex s) here f c → IsIn c new
