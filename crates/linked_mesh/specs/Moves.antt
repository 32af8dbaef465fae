-- A point that is moved, in the cells of a set.
use Rattle.std.specs.Prelude.{◌≡◌, ℕ, Bool, true, false, List}
use Rattle.point_order.specs.declared.cell.Cell.{Cell}
use Rattle.point_order.specs.Sets.{IsIn}
use Rattle.point_order.specs.Solid.{is_solid}
use Rattle.edit_history.specs.Edits.{moved_to}
use Rattle.hole_laws.specs.Edits.{IsNew}
use Rattle.cell_slots.specs.Clouds.{AreCellsOf}

-- the cells are those of some set that has the one point, and to which the other is new
abbrev pub AreCellsToMove : ℕ → ℕ → List Cell → Type 0
AreCellsToMove a b cells = (s : List ℕ) × AreCellsOf s cells × IsIn a s × IsNew s b

-- the point has moved, what it left is solid, and these are its cells; or it has not, and they are those of the set
abbrev pub AreMovedTo : List ℕ → ℕ → ℕ → Bool → List Cell → Type 0
AreMovedTo s a b true cells = (is_solid (moved_to a b s) ≡ true) × AreCellsOf (moved_to a b s) cells
AreMovedTo s a b false cells = (is_solid (moved_to a b s) ≡ false) × AreCellsOf s cells
