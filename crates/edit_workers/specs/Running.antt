-- What all workers together make of a mesh.
use Rattle.std.specs.Prelude.{◌≡◌, ℕ, ◌+◌, ◌-◌, ◌^◌, ◌<◌, ◌≤◌, List, [], ◌∷◌, ◌++◌, map, length, All, AllPairs}
use Rattle.std.specs.Prelude.{IsPermutation, slice_index_or}
use Rattle.point_order.specs.Sets.{IsIn}
use Rattle.edit_history.specs.declared.history.Entry.{Entry}
use Rattle.edit_history.specs.Edits.{point_of}
use Rattle.edit_history.specs.OneThread.{line_of}
use Rattle.grid_claims.specs.Passes.{Opened, Standing}
use Rattle.grid_claims.specs.Tries.{IsStill, joined}
use Rattle.plain_laws.specs.Running.{Pair, AreApart, IsRun}
use Rattle.edit_lists.specs.Dealing.{AreTagsAscending, all_of, count_in_all}

-- the entry is of a pair in the list of its worker, where the first of the workers has this number
abbrev pub IsOfWorker : ℕ → List (List Pair) → Entry → Type 0
IsOfWorker first lists e = IsIn (line_of e) (slice_index_or lists (e.by - first) [])

-- First come entries of the workers, each of its own list, and then those that were left over, by 0, in the order of
-- their tags.
pub record EndsLate (lists : List (List Pair)) (more : List Entry) : Type 0 where
  pub made : List Entry
  pub late : List Entry
  pub both : more ≡ made ++ late
  pub owned : (e : Entry) → IsIn e made → IsOfWorker 0 lists e
  pub by_none : All (λ e. e.by ≡ 0) late
  pub tags : AllPairs (λ d e. d.tag ≤ e.tag) late

-- The history k is h, gone on with a run of the lists of a segment.
pub record IsSegmentRun (lists : List (List Pair)) (h k : List Entry) : Type 0 where
  pub more : List Entry
  pub history : k ≡ h ++ more
  pub run : IsRun lists more
  pub ends : EndsLate lists more

-- The entries are a run of the lists of each segment, those of one segment in front of those of the next, and those of
-- a segment end with what was left over in it.
abbrev pub AreDone : List (List (List Pair)) → List Entry → Type 0
AreDone [] entries = entries ≡ []
AreDone (lists ∷ others) entries =
    (front : List Entry) × (behind : List Entry)
    × (entries ≡ front ++ behind) × IsRun lists front × EndsLate lists front × AreDone others behind

-- The history k is h, gone on with runs of the segments.
pub record AreRun (segments : List (List (List Pair))) (h k : List Entry) : Type 0 where
  pub more : List Entry
  pub history : k ≡ h ++ more
  pub done : AreDone segments more

-- ---- workers side by side

-- The pass can do these lists: there are 1 to 64, it has a part for each and allowance for all their pairs, and has
-- made no entry yet.
pub record CanRun (table : Opened) (lists : List (List Pair)) (pass : Standing) : Type 0 where
  pub some : 0 < length lists
  pub short : length lists ≤ 64
  pub table_is : pass.table ≡ table
  pub parts : pass.parts ≡ length lists
  pub left : count_in_all lists ≤ pass.left
  pub few : pass.left ≤ 2 ^ 32
  pub fresh : pass.made ≡ []
  pub tags : All AreTagsAscending lists
  pub apart : AreApart lists

-- where they are of one point, their tags ascend
abbrev pub AscendAtPoint : Pair → Pair → Type 0
AscendAtPoint p q = point_of p.1 ≡ point_of q.1 → p.0 < q.0

-- Each pair of the lists was made or is left over, once. Of the pairs of one point those made come by their tags, also
-- by number, then come those left over, by their tags.
pub record ArePartly (lists : List (List Pair)) (left : List Pair) (entries : List Entry) : Type 0 where
  pub lines : IsPermutation (all_of lists) (map line_of entries ++ left)
  pub order : (d e : Entry) → IsIn d entries → IsIn e entries → d.number < e.number →
      AscendAtPoint (line_of d) (line_of e)
  pub behind : (d : Entry) (p : Pair) → IsIn d entries → IsIn p left → AscendAtPoint (line_of d) p
  pub later : AllPairs AscendAtPoint left

-- the list was done whole: nothing is left over, and the entries are of its pairs, in its order
abbrev pub IsDoneWhole : List Pair → List Pair → List Entry → Type 0
IsDoneWhole list left entries = (left ≡ []) × (map line_of entries ≡ list)

-- The lists were worked on by the parts of a pass. Where that pass owns all parts and there is one list, it was done
-- whole, in its order.
pub record AreWorked (lists : List (List Pair)) (left : List Pair) (old new : Standing) : Type 0 where
  pub still : IsStill old new
  pub partly : ArePartly lists left new.made
  pub workers : All (λ e. (old.first ≤ e.by) × (e.by < old.first + old.parts)) new.made
  pub owned : (e : Entry) → IsIn e new.made → IsOfWorker old.first lists e
  pub alone : (l : List Pair) → lists ≡ l ∷ [] → old.first ≡ 0 → old.parts ≡ old.table.parts →
      IsDoneWhole l left new.made

-- Two passes of the table, of which the second's parts come behind those of the first, have together done the lists of
-- the pass that they were.
pub record ArePassesJoined (table : Opened) (lists : List (List Pair)) (old : Standing) (a b : List Pair)
    (p q : Standing) :
    Type 0 where
  pub low : p.table ≡ table
  pub high : q.table ≡ table
  pub next : q.first ≡ p.first + p.parts
  pub worked : AreWorked lists (a ++ b) old (joined p q)

-- The pass was split in two for two halves of the lists: each can do its half, and once both have they can be joined.
pub record AreHalves (table : Opened) (lists lows highs : List (List Pair)) (old first second : Standing) : Type 0 where
  pub low : CanRun table lows first
  pub high : CanRun table highs second
  pub both : (a b : List Pair) (p q : Standing) → AreWorked lows a first p → AreWorked highs b second q →
      ArePassesJoined table lists old a b p q

-- The history k is h, gone on with a run of the lists but for the pairs left over.
pub record AreRunBut (lists : List (List Pair)) (left : List Pair) (h k : List Entry) : Type 0 where
  pub more : List Entry
  pub history : k ≡ h ++ more
  pub partly : ArePartly lists left more
  pub workers : All (λ e. e.by < length lists) more
  pub owned : (e : Entry) → IsIn e more → IsOfWorker 0 lists e
  pub alone : (l : List Pair) → lists ≡ l ∷ [] → IsDoneWhole l left more

-- ---- pairs left over

-- The history k is h, gone on with entries of these pairs in their order, by 0.
pub record AreApplied (pairs : List Pair) (h k : List Entry) : Type 0 where
  pub more : List Entry
  pub history : k ≡ h ++ more
  pub pairs_are : map line_of more ≡ pairs
  pub by_none : All (λ e. e.by ≡ 0) more

-- the pairs, by their tags
pub record AreByTag (pairs sorted : List Pair) : Type 0 where
  pub same : IsPermutation pairs sorted
  pub order : AllPairs (λ p q. p.0 ≤ q.0) sorted
