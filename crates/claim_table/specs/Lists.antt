-- Lists of entries.
use Rattle.std.specs.Prelude.{ℕ, leb, List, length, if◌then◌else◌}
use Rattle.std.specs.List.{filter}
use Rattle.edit_history.specs.declared.history.Entry.{Entry}
use Rattle.claim_rule.specs.Boards.{is_by}

-- the entries by these parts
unfoldable pub entries_by : ℕ → ℕ → List Entry → List Entry
entries_by first parts l = filter (is_by first parts) l

-- the longer of two lists
abbrev pub longer : List Entry → List Entry → List Entry
longer l m = if leb (length l) (length m) then m else l
