-- One edit in a part, and its reply.
use Rattle.std.specs.Prelude.{◌≡◌, ℕ, List, ◌++◌}
use Rattle.point_order.specs.declared.cell.Cell.{Cell}
use Rattle.edit_history.specs.declared.history.Edit.{Edit}
use Rattle.edit_history.specs.declared.history.Reply.{Reply}
use Rattle.edit_history.specs.Edits.{after, reply_to}
use Rattle.cell_slots.specs.Clouds.{AreCellsOf}
use Rattle.part_edits.specs.Made.{AgreeAt}

-- the cells and some others are those of some set of which that is known
pub record ArePartKnown (known : List ℕ) (edit : Edit) (cells : List Cell) : Type 0 where
  pub others : List Cell
  pub set : List ℕ
  pub cells_of : AreCellsOf set (cells ++ others)
  pub agree : AgreeAt known set edit

-- The edit makes the cells old into the cells new, with that reply: whatever others there are, where old and the others
-- are the cells of a set of which that is known, it is the reply to the edit, and new and the same others are the cells
-- of the set after it.
abbrev pub IsMade : List ℕ → Edit → Reply → List Cell → List Cell → Type 0
IsMade known edit reply old new =
    (others : List Cell) (s : List ℕ) → AreCellsOf s (old ++ others) → AgreeAt known s edit →
    (reply ≡ reply_to s edit) × AreCellsOf (after s edit) (new ++ others)
