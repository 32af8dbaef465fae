-- A table and its passes, as contracts see them.
use Rattle.std.specs.Prelude.{ℕ, List}
use Rattle.atomic_table.specs.Seated.{TableId}
use Rattle.edit_history.specs.declared.history.Entry.{Entry}
use Rattle.claim_table.specs.declared.view.Act.{Act}
use Rattle.claim_table.specs.declared.view.View.{View}

-- A table: which it is, the size of its grid, its number of parts, and the entries with which it began.
pub record Opened : Type 0 where
  pub id : TableId
  pub grid : ℕ
  pub parts : ℕ
  pub opening : List Entry

-- A pass: the table of which it is one, its first part, which is its number, how many parts it owns, how many edits
-- it may still make, what
-- it has seen of the ticket, the entries of its parts, the entries of which it knows that the history begins with
-- them, and its own steps.
pub record Standing : Type 0 where
  pub table : Opened
  pub first : ℕ
  pub parts : ℕ
  pub left : ℕ
  pub seen : ℕ
  pub made : List Entry
  pub known : List Entry
  pub trail : List Act

-- a seat of a table with this view, as a pass
abbrev pub standing : TableId → View → Standing
standing id v = record {
  table = record { id = id; grid = v.grid; parts = v.all; opening = v.opening };
  first = v.first;
  parts = v.parts;
  left = v.left;
  seen = v.seen;
  made = v.made;
  known = v.known;
  trail = v.trail;
}
