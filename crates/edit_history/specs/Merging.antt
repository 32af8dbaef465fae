-- Entries that are kept in several lists, and put together by their numbers.
use Rattle.std.specs.Prelude.{ℕ, List, map, length}
use Rattle.std.specs.List.{range_with_len}
use Rattle.std.specs.List.Sorted.{IsPermutation}
use Rattle.edit_history.specs.declared.history.Entry.{Entry}

abbrev pub numbers : List Entry → List ℕ
numbers h = map (λ e. e.number) h

-- 0, 1, 2 and so on, one for each entry
abbrev pub places_of : List Entry → List ℕ
places_of h = range_with_len 0 (length h)

-- each place is the number of one entry
abbrev pub AreNumbered : List Entry → Type 0
AreNumbered h = IsPermutation (numbers h) (places_of h)
