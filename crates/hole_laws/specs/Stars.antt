-- The cells at a point, found across the facets that have it.
use Rattle.std.specs.Prelude.{ℕ, List}
use Rattle.point_order.specs.Complex.{complex}
use Rattle.point_order.specs.Facets.{facets_of, points_of, points_on}
use Rattle.point_order.specs.Sets.{IsIn}
use Rattle.point_order.specs.declared.cell.Cell.{Cell}
use Rattle.point_order.specs.declared.cell.Facet.{Facet}
use Rattle.hole_laws.specs.Edits.{IsSet}

-- a cell of s that has v
pub record IsCellAt (s : List ℕ) (v : ℕ) (q : Cell) : Type 0 where
  pub listed : IsIn q (complex s)
  pub has : IsIn v (points_of q)

-- cells of s at v, with each of them those that share a facet with it that has v
pub record IsClosedStar (s : List ℕ) (v : ℕ) (part : List Cell) : Type 0 where
  pub at : (q : Cell) → IsIn q part → IsCellAt s v q
  pub across : (q r : Cell) (f : Facet) → IsIn q part → IsCellAt s v r → IsIn v (points_on f) → IsIn f (facets_of q) →
      IsIn f (facets_of r) → IsIn r part

-- a star is connected across the facets that have its point: such a part that has one of the cells at v has them all
abbrev pub StarConnected : Type 0
StarConnected =
    (s : List ℕ) (v : ℕ) → IsSet s →
    (part : List Cell) → IsClosedStar s v part → (a : Cell) → IsIn a part → (b : Cell) → IsCellAt s v b → IsIn b part
