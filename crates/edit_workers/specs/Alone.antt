-- What one worker makes of a history.
use Rattle.std.specs.Prelude.{ℕ, List, ◌++◌, length}
use Rattle.std.specs.List.{enumerate_from}
use Rattle.edit_history.specs.declared.history.Edit.{Edit}
use Rattle.edit_history.specs.declared.history.Entry.{Entry}
use Rattle.edit_history.specs.Histories.{entries_from, replay}

-- the history with the entries that one thread makes of the edits, with tags from a number on
abbrev pub with_edits : List Entry → ℕ → List Edit → List Entry
with_edits h first edits = h ++ entries_from (length h) (replay h) (enumerate_from first edits)
