-- Lists of edits for workers.
use Rattle.std.specs.Prelude.{◌≡◌, ℕ, ◌%◌, ◌<◌, ◌≤◌, List, ◌∷◌, ◌++◌, [], map, length, Some, All, AllPairs}
use Rattle.std.specs.Prelude.{slice_index_or, set}
use Rattle.std.specs.List.{flat_map}
use Rattle.edit_history.specs.Edits.{point_of}
use Rattle.edit_history.specs.Opening.{opening_four, FourPlaces}
use Rattle.edit_history.specs.OneThread.{places}
use Rattle.plain_laws.specs.Running.{Pair, AreApart, MovesAlone}
use Rattle.edit_lists.specs.declared.lists.List as lists
use Rattle.edit_lists.specs.declared.lists.Segment.{Segment}
use Rattle.edit_lists.specs.declared.lists.Lists.{Lists}

-- lists, as lists of pairs
abbrev pub pairs_in : List lists.List → List (List Pair)
pairs_in l = map (λ list. list.pairs.items) l

-- those of a segment
abbrev pub lists_of : Segment → List (List Pair)
lists_of segment = pairs_in segment.each.items

-- those of each segment
abbrev pub segments_of : Lists → List (List (List Pair))
segments_of lists = map lists_of lists.segments.items

-- these are the places of the opening four of the points
abbrev pub AreOpening : List ℕ → List ℕ → Type 0
AreOpening points four = (f : FourPlaces) × (opening_four points ≡ Some f) × (four ≡ places f)

-- the tags of a list ascend
abbrev pub AreTagsAscending : List Pair → Type 0
AreTagsAscending l = AllPairs (λ a b. a.0 < b.0) l

-- all pairs of lists
abbrev pub all_of : List (List Pair) → List Pair
all_of lists = flat_map (λ l. l) lists

-- how many pairs all lists have
abbrev pub count_in_all : List (List Pair) → ℕ
count_in_all lists = length (all_of lists)

-- how many the lists of all segments have
abbrev pub count_all : List (List (List Pair)) → ℕ
count_all segments = length (flat_map all_of segments)

-- The lists of a segment can be done side by side: there are 1 to 64, in each the tags ascend, no point stands in two
-- of them, and a pair that moves shares no point with another one.
pub record CanBeDone (lists : List (List Pair)) : Type 0 where
  pub some : 0 < length lists
  pub short : length lists ≤ 64
  pub tags : All AreTagsAscending lists
  pub apart : AreApart lists
  pub alone : MovesAlone (all_of lists)

-- the lists with a pair at the end of that of its worker
abbrev pub with_pair : Pair → List (List Pair) → List (List Pair)
with_pair pair lists =
    let worker = point_of pair.1 % length lists in
    set lists worker (slice_index_or lists worker [] ++ pair ∷ [])
