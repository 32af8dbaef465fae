-- What an edit makes of a history.
use Rattle.std.specs.Prelude.{ℕ, List, [], ◌∷◌, ◌++◌, length}
use Rattle.edit_history.specs.declared.history.Edit.{Edit}
use Rattle.edit_history.specs.declared.history.Entry.{Entry}
use Rattle.edit_history.specs.Histories.{entries_from, replay}

-- the history with the entry that one thread makes of the edit
abbrev pub edited : List Entry → ℕ → Edit → List Entry
edited h tag edit = h ++ entries_from (length h) (replay h) ((tag, edit) ∷ [])
