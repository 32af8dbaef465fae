-- The other cells on a facet, in a list.
use Rattle.std.specs.Prelude.{◌≡◌, List}
use Rattle.point_order.specs.declared.cell.Cell.{Cell}
use Rattle.point_order.specs.declared.cell.Facet.{Facet}
use Rattle.point_order.specs.Facets.{facets_of}
use Rattle.point_order.specs.Sets.{IsIn}

-- a cell of the list that is on the facet, and not the given cell
pub record IsOtherOf (l : List Cell) (cell : Cell) (facet : Facet) (other : Cell) : Type 0 where
  pub listed : IsIn other l
  pub has : IsIn facet (facets_of other)
  pub differs : ¬ (other ≡ cell)

-- the list has no such cell
abbrev pub HaveNoOther : List Cell → Cell → Facet → Type 0
HaveNoOther l cell facet = (other : Cell) → IsOtherOf l cell facet other → ⊥
