-- The entry of a new point.
use Rattle.std.specs.Prelude.{◌≡◌, ℕ, List, length}
use Rattle.point_order.specs.declared.cell.Cell.{Cell}
use Rattle.point_order.specs.Sets.{IsIn}
use Rattle.edit_history.specs.declared.history.Edit.TheVariants.{Add}
use Rattle.edit_history.specs.declared.history.Entry.{Entry}
use Rattle.edit_history.specs.declared.history.Reply.TheVariants.{Inserted}
use Rattle.edit_history.specs.Edits.{point_of}
use Rattle.edit_history.specs.Histories.{replay}
use Rattle.cell_store.specs.Changes.{Follows}
use Rattle.cavity.specs.Fills.{IsFilled}

-- The entry is the insertion of a point that is new after the history, and continues it.
pub record IsInsertion (h : List Entry) (e : Entry) : Type 0 where
  pub edit : e.edit ≡ Add (point_of e.edit)
  pub absent : ¬ (IsIn (point_of e.edit) (replay h))
  pub number : e.number ≡ length h
  pub reply : e.reply ≡ Inserted

-- Such an entry follows the history, with exactly the cells that its point takes away and those that it brings.
abbrev pub InsertionFollows : Type 0
InsertionFollows =
    (h : List Entry) (e : Entry) (gone fresh : List Cell) → IsInsertion h e →
    IsFilled (replay h) (point_of e.edit) gone fresh → Follows h e gone fresh
