-- The entries of points that are taken and moved.
use Rattle.std.specs.Prelude.{◌≡◌, ℕ, true, List, length}
use Rattle.point_order.specs.declared.cell.Cell.{Cell}
use Rattle.point_order.specs.Complex.{complex}
use Rattle.point_order.specs.Sets.{IsIn}
use Rattle.point_order.specs.Solid.{is_solid}
use Rattle.edit_history.specs.declared.history.Edit.TheVariants.{Take, Move}
use Rattle.edit_history.specs.declared.history.Entry.{Entry}
use Rattle.edit_history.specs.declared.history.Reply.TheVariants.{Removed, Moved}
use Rattle.edit_history.specs.Edits.{moved_to, point_of}
use Rattle.edit_history.specs.Histories.{replay}
use Rattle.cell_store.specs.Changes.{Follows}
use Rattle.cell_changes.specs.Changes.{IsChange, IsRefilled}

-- The entry is the removal of a point that is there after the history, and continues it.
pub record IsRemoval (h : List Entry) (e : Entry) : Type 0 where
  pub edit : e.edit ≡ Take (point_of e.edit)
  pub there : IsIn (point_of e.edit) (replay h)
  pub number : e.number ≡ length h
  pub reply : e.reply ≡ Removed

-- Where the rest is solid such an entry follows the history, with exactly the cells that go and those that come.
abbrev pub RemovalFollows : Type 0
RemovalFollows =
    (h : List Entry) (e : Entry) (gone fresh : List Cell) → IsRemoval h e →
    IsRefilled (replay h) (point_of e.edit) gone fresh → Follows h e gone fresh

-- The entry is the move of a point that is there after the history to a place where none is, and continues it.
pub record IsMoving (h : List Entry) (e : Entry) (a b : ℕ) : Type 0 where
  pub edit : e.edit ≡ Move a b
  pub there : IsIn a (replay h)
  pub free : ¬ (IsIn b (replay h))
  pub number : e.number ≡ length h
  pub reply : e.reply ≡ Moved

-- Where what it leaves is solid such an entry follows the history, with exactly the cells that go and those that come.
abbrev pub MoveFollows : Type 0
MoveFollows =
    (h : List Entry) (e : Entry) (a b : ℕ) (gone fresh : List Cell) → IsMoving h e a b →
    is_solid (moved_to a b (replay h)) ≡ true →
    IsChange (complex (replay h)) (complex (moved_to a b (replay h))) gone fresh → Follows h e gone fresh
