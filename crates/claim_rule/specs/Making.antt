-- What a commit makes of the hold in which all buckets are.
use Rattle.std.specs.Prelude.{ℕ, Bool, true, false, List}
use Rattle.point_order.specs.declared.cell.Cell.{Cell}
use Rattle.point_order.specs.Complex.{complex}
use Rattle.edit_history.specs.declared.history.Edit.{Edit}
use Rattle.edit_history.specs.declared.history.Entry.{Entry}
use Rattle.edit_history.specs.Edits.{reply_to, after}
use Rattle.cell_store.specs.Buckets.{InHand}
use Rattle.cell_store.specs.Changes.{IsArrived, IsSwapped, IsNoted}
use Rattle.cell_changes.specs.Changes.{IsChange}
use Rattle.cell_store.specs.Touches.{HoldTouched}
use Rattle.claim_rule.specs.Kept.{held_by}

-- the cells are exchanged, then the place comes to which a point has moved, if the entry tells of one, and then the
-- entry is noted
pub record IsExchangedIn (gone fresh : List Cell) (e : Entry) (old new : InHand) : Type 0 where
  pub between : InHand
  pub swapped : IsSwapped gone fresh old between
  pub with_goal : InHand
  pub arrived : IsArrived e between with_goal
  pub noted : IsNoted e with_goal new

-- the pass's words are on all buckets that the edit of the set touches, and the hold has what the edit changes, and its
-- entry
pub record IsEditMade (words s : List ℕ) (number n tag : ℕ) (edit : Edit) (old new : InHand) : Type 0 where
  pub touched : HoldTouched old.grid s edit (held_by n words old.places)
  pub gone : List Cell
  pub fresh : List Cell
  pub change : IsChange (complex s) (complex (after s edit)) gone fresh
  pub exchanged : IsExchangedIn gone fresh
      (record { number = number; by = n; tag = tag; edit = edit; reply = reply_to s edit }) old new

-- the edit is made, or the pass's words are not on all those buckets
abbrev pub EditGives : List ℕ → List ℕ → ℕ → ℕ → ℕ → Edit → InHand → Bool → InHand → Type 0
EditGives words s number n tag edit old true new = IsEditMade words s number n tag edit old new
EditGives words s number n tag edit old false new =
    ¬ (HoldTouched old.grid s edit (held_by n words old.places))
