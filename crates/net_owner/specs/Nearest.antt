-- The nearest point to a place: the points of which cells come before it.
use Rattle.std.specs.Prelude.{◌≡◌, ℕ, false, List}
use Rattle.point_order.specs.declared.cell.Cell.{Cell}
use Rattle.point_order.specs.Facets.{points_of}
use Rattle.point_order.specs.Sets.{IsIn}
use Rattle.del_laws.specs.Nearest.{comes_before}

-- as seen from q, no point of the cell comes before p
abbrev pub HasNoneBefore : ℕ → ℕ → Cell → Type 0
HasNoneBefore q p cell = (y : ℕ) → IsIn y (points_of cell) → comes_before q y p ≡ false

-- found cells are among those of the list, and none has a point before p
pub record AreLookedAt (q p : ℕ) (l found : List Cell) : Type 0 where
  pub among : (c : Cell) → IsIn c found → IsIn c l
  pub first : (c : Cell) → IsIn c found → HasNoneBefore q p c
