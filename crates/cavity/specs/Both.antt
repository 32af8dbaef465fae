-- Two changes of cells, one after the other.
use Rattle.std.specs.Prelude.{◌≡◌, ◌⊎◌, List}
use Rattle.point_order.specs.declared.cell.Cell.{Cell}
use Rattle.point_order.specs.Sets.{IsIn}

-- the cell, where it is none of the others
abbrev pub IsOtherThan : List Cell → Cell → Cell → Type 0
IsOtherThan others c d = (c ≡ d) × (IsIn c others → ⊥)

-- The list has exactly the first cells that are none of those beside them, and the second ones that are none of those
-- beside them.
pub record AreOfBoth (first but_first second but_second list : List Cell) : Type 0 where
  pub each : (c : Cell) → IsIn c list → (IsIn c first × (IsIn c but_first → ⊥)) ⊎
      (IsIn c second × (IsIn c but_second → ⊥))
  pub one : (c : Cell) → IsIn c first → (IsIn c but_first → ⊥) → IsIn c list
  pub other : (c : Cell) → IsIn c second → (IsIn c but_second → ⊥) → IsIn c list
