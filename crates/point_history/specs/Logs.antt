-- What is kept while the entries are made.
use Rattle.std.specs.Prelude.{◌≡◌, ℕ, Bool, not, List, [], if◌then◌else◌}
use Rattle.point_order.specs.Sets.{is_among}
use Rattle.edit_history.specs.declared.history.Edit.{Edit}
use Rattle.edit_history.specs.Histories.{entries_from, replay}
use Rattle.point_history.specs.declared.entries.Log.{Log}

-- the entries are those that one thread makes of the lines, and the points those that they leave
abbrev pub IsLogOf : List (ℕ × Edit) → Log → Type 0
IsLogOf lines log = (log.entries.items ≡ entries_from 0 [] lines) × (log.seen.keys ≡ replay log.entries.items)

-- whether a place is one of the four, or whether it is none of them
abbrev pub is_picked : Bool → List ℕ → ℕ → Bool
is_picked of_four four place = if of_four then is_among place four else not (is_among place four)
