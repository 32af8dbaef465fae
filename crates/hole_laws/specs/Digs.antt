-- Digs: what is found of the cells that a new point takes away, by crossing the facets of those found.
use Rattle.std.specs.Prelude.{ℕ, ◌++◌, ◌↔◌, List, [], ◌∷◌, take}
use Rattle.std.specs.List.{flat_map}
use Rattle.list_laws.specs.Lists.{AreDistinct}
use Rattle.point_order.specs.declared.cell.Cell.{Cell}
use Rattle.point_order.specs.declared.cell.Facet.{Facet}
use Rattle.point_order.specs.Facets.{facets_of, points_on}
use Rattle.point_order.specs.Sets.{IsIn}
use Rattle.hole_laws.specs.Edits.{IsNew, GoesFrom, IsRimOf}

-- Some facets of found cells were crossed. All found cells go, and every cell that goes behind a crossed facet is
-- found; the rim facets among those crossed are listed. No cell and no facet is listed twice.
pub record AreCrossed (s : List ℕ) (p : ℕ) (crossed : List Facet) (found : List Cell) (rim : List Facet) : Type 0 where
  pub goes : (q : Cell) → IsIn q found → GoesFrom s p q
  pub behind : (f : Facet) (q : Cell) → IsIn f crossed → GoesFrom s p q → IsIn f (facets_of q) → IsIn q found
  pub rim_is : (f : Facet) → IsIn f rim ↔ (IsIn f crossed × IsRimOf s p f)
  pub found_once : AreDistinct found
  pub rim_once : AreDistinct rim

-- some facets of found cells were crossed, and the cell is one that was found
pub record IsCrossedAt (s : List ℕ) (p : ℕ) (crossed : List Facet) (cell : Cell) (found : List Cell)
    (rim : List Facet) : Type 0 where
  pub new : IsNew s p
  pub so_far : AreCrossed s p crossed found rim
  pub among : IsIn cell found

-- a rim facet among these was not crossed before
abbrev pub AreUncrossed : List ℕ → ℕ → List Facet → List Facet → Type 0
AreUncrossed s p crossed fs = (f : Facet) → IsIn f fs → IsRimOf s p f → ¬ (IsIn f crossed)

-- after the facet of the found cell was crossed, it is one of those crossed
abbrev pub Crosses : List ℕ → ℕ → Cell → Facet → List Cell → List Facet → List Cell → List Facet → Type 0
Crosses s p cell f found rim found' rim' =
    (crossed : List Facet) → IsCrossedAt s p crossed cell found rim → AreUncrossed s p crossed (f ∷ []) →
    AreCrossed s p (crossed ++ f ∷ []) found' rim'

-- after the found cell was explored, its facets are
abbrev pub Explores : List ℕ → ℕ → Cell → List Cell → List Facet → List Cell → List Facet → Type 0
Explores s p cell found rim found' rim' =
    (crossed : List Facet) → IsCrossedAt s p crossed cell found rim → AreUncrossed s p crossed (facets_of cell) →
    AreCrossed s p (crossed ++ facets_of cell) found' rim'

-- the facets of the first n cells of a list
abbrev pub facets_of_first : ℕ → List Cell → List Facet
facets_of_first n cells = flat_map facets_of (take n cells)

-- The dig is one in the complex of s: its point is none of s, some cell was found, and exactly the facets of the
-- explored cells, the first ones found, were crossed.
pub record IsDug (s : List ℕ) (p explored : ℕ) (found : List Cell) (rim : List Facet) : Type 0 where
  pub new : IsNew s p
  pub first : Cell
  pub begun : IsIn first found
  pub crossed : AreCrossed s p (facets_of_first explored found) found rim

-- p is none of the points of a facet of some cell
abbrev pub IsFacetApart : Facet → ℕ → Type 0
IsFacetApart f p = (q : Cell) × IsIn f (facets_of q) × ¬ (IsIn p (points_on f))

-- so of each facet of a list
abbrev pub AreFacetsApart : List Facet → ℕ → Type 0
AreFacetsApart facets p = (f : Facet) → IsIn f facets → IsFacetApart f p
