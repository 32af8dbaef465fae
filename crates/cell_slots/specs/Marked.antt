-- Marks of slots while a hole or a star is found: which of their cells were found, and which stay.
use Rattle.std.specs.Prelude.{◌≡◌, ℕ, ◌+◌, ◌<◌, ◌≤◌, List, ◌∷◌, [], ◌++◌, length, Option, Some, slice_index_or}
use Rattle.std.specs.Prelude.{slice_set}
use Rattle.list_laws.specs.Lists.{AreDistinct}
use Rattle.point_order.specs.declared.cell.Cell.{Cell}
use Rattle.point_order.specs.declared.cell.Facet.{Facet}
use Rattle.point_order.specs.Sets.{IsIn}
use Rattle.hole_laws.specs.Edits.{GoesFrom, StaysFrom}
use Rattle.hole_laws.specs.Others.{IsOtherOf}
use Rattle.cell_slots.specs.Nets.{cells_of_slots, slot_at}
use Rattle.cell_slots.specs.Parts.{InEach}

-- what contracts see of marks: those of the slots, and the stamp, which is the mark of cells that were found
pub record MarksView : Type 0 where
  pub of : List ℕ
  pub stamp : ℕ

-- the mark of a slot
abbrev pub mark_at : MarksView → ℕ → ℕ
mark_at marks i = slice_index_or marks.of i 0

-- it says that the cell of the slot was found
abbrev pub IsGoneAt : MarksView → ℕ → Type 0
IsGoneAt marks i = mark_at marks i ≡ marks.stamp

-- or that it stays
abbrev pub IsStayingAt : MarksView → ℕ → Type 0
IsStayingAt marks i = mark_at marks i ≡ marks.stamp + 1

-- the marks with another at a place
abbrev pub set_mark : MarksView → ℕ → ℕ → MarksView
set_mark marks i mark = record { of = slice_set marks.of i mark; stamp = marks.stamp }

-- no mark is greater than that of cells that stay, which is a number of 16 bits
pub record AreLow (marks : List ℕ) (stamp : ℕ) : Type 0 where
  pub most : (i : ℕ) → slice_index_or marks i 0 ≤ stamp + 1
  pub small : stamp < 65002

-- the cells are some of the list, each once
pub record ArePicked (l cells : List Cell) : Type 0 where
  pub among : (q : Cell) → IsIn q cells → IsIn q l
  pub once : AreDistinct cells

-- The cells of the slots that are marked so were found, and no other; those of the slots that are marked to stay do.
pub record AreSlotsMarked (Stays : Cell → Type 0) (slots : List (Option Cell)) (marks : MarksView) (found : List Cell) :
    Type 0 where
  pub room : length slots ≤ length marks.of
  pub gone : (i : ℕ) (c : Cell) → slot_at slots i ≡ Some c → IsGoneAt marks i → IsIn c found
  pub apart : (i : ℕ) (c : Cell) → slot_at slots i ≡ Some c → ¬ (IsGoneAt marks i) → ¬ (IsIn c found)
  pub stays : (i : ℕ) (c : Cell) → slot_at slots i ≡ Some c → IsStayingAt marks i → Stays c
  pub picked : ArePicked (cells_of_slots slots) found

-- the cells stay where p comes to the cells, beside whatever others
abbrev pub StaysBeside : ℕ → List Cell → Cell → Type 0
StaysBeside p cells c = InEach p cells (λ s. StaysFrom s p c)

-- so in a dig for p
abbrev pub AreMarkedFor : ℕ → List (Option Cell) → MarksView → List Cell → Type 0
AreMarkedFor p slots marks found = AreSlotsMarked (StaysBeside p (cells_of_slots slots)) slots marks found

-- and where none is known to stay
abbrev pub AreMarkedIn : List (Option Cell) → MarksView → List Cell → Type 0
AreMarkedIn slots marks found = AreSlotsMarked (λ c. Unit {0}) slots marks found

-- the slot has a cell
abbrev pub HasCellAt : List (Option Cell) → ℕ → Type 0
HasCellAt slots i = (c : Cell) × (slot_at slots i ≡ Some c)

-- in the slot stands another cell on the facet of a cell
pub record IsOtherAt (slots : List (Option Cell)) (cell : Cell) (facet : Facet) (i : ℕ) : Type 0 where
  pub other : Cell
  pub at : slot_at slots i ≡ Some other
  pub is : IsOtherOf (cells_of_slots slots) cell facet other

-- in the slot stands a cell that p takes away
pub record GoesAt (p : ℕ) (slots : List (Option Cell)) (i : ℕ) : Type 0 where
  pub cell : Cell
  pub at : slot_at slots i ≡ Some cell
  pub goes : InEach p (cells_of_slots slots) (λ s. GoesFrom s p cell)

-- or one that stays, if any
abbrev pub StaysAt : ℕ → List (Option Cell) → ℕ → Type 0
StaysAt p slots i = (c : Cell) → slot_at slots i ≡ Some c → StaysBeside p (cells_of_slots slots) c

-- a cell that goes comes to those found
pub record IsFoundAt (p : ℕ) (slots : List (Option Cell)) (i : ℕ) (old new : List Cell) : Type 0 where
  pub goes : GoesAt p slots i
  pub found : new ≡ old ++ goes.cell ∷ []

-- the cell of the slot stays, and none comes to those found
pub record IsLeftAt (p : ℕ) (slots : List (Option Cell)) (i : ℕ) (old new : List Cell) : Type 0 where
  pub stays : StaysAt p slots i
  pub found : new ≡ old
