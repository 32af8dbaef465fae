-- Lines that are dealt to workers, and what the workers make of them.
use Rattle.std.specs.Prelude.{◌≡◌, ℕ, ◌%◌, ◌<◌, ◌==◌, ◌&&◌, ◌||◌, Bool, true, false, not, if◌then◌else◌, List, [], ◌∷◌}
use Rattle.std.specs.Prelude.{◌++◌, map, length, Some, All, AllPairs, IsPermutation}
use Rattle.std.specs.List.{enumerate_from, filter, flat_map, list_any, range_with_len}
use Rattle.point_order.specs.Sets.{IsIn, is_among}
use Rattle.edit_history.specs.declared.history.Edit.{Edit}
use Rattle.edit_history.specs.declared.history.Entry.{Entry}
use Rattle.edit_history.specs.Edits.{is_move, point_of, share_point}
use Rattle.edit_history.specs.Histories.{IsLegal, entries_from}
use Rattle.edit_history.specs.Opening.{opening_four, FourPlaces}
use Rattle.edit_history.specs.OneThread.{Keeps, tagged_lines, one_thread, places, line_of}

-- a tag and an edit
abbrev pub Pair : Type 0
Pair = ℕ × Edit

-- ---- segments

-- two lines share a point, and one of them moves
abbrev pub clash : Pair → Pair → Bool
clash x y = share_point x.1 y.1 && (is_move x.1 || is_move y.1)

-- Lines cut into segments, of which the present one has some lines already: a line that clashes with an earlier line
-- of the present segment begins a new one.
abbrev pub cut : List Pair → List Pair → List (List Pair)
cut present [] = present ∷ []
cut present (line ∷ lines) =
    if list_any (λ earlier. clash earlier line) present
    then present ∷ cut (line ∷ []) lines
    else cut (present ++ line ∷ []) lines

-- the segments of lines; of no lines there is one, an empty one
abbrev pub segments : List Pair → List (List Pair)
segments lines = cut [] lines

-- the segments have all lines, in their order
abbrev pub SegmentsKeepLines : Type 0
SegmentsKeepLines = (lines : List Pair) → flat_map (λ l. l) (segments lines) ≡ lines

-- lines that move no point are one segment
abbrev pub OneSegment : Type 0
OneSegment = (lines : List Pair) → All (λ line. is_move line.1 ≡ false) lines → segments lines ≡ lines ∷ []

-- none of the lines that moves shares a point with another one
abbrev pub MovesAlone : List Pair → Type 0
MovesAlone lines = AllPairs (λ x y. clash x y ≡ false) lines

-- no pair of the one shares a point with one of the other
abbrev pub HaveNoPoint : List Pair → List Pair → Type 0
HaveNoPoint l m = (a b : Pair) → IsIn a l → IsIn b m → share_point a.1 b.1 ≡ false

-- no point stands in two of the lists
abbrev pub AreApart : List (List Pair) → Type 0
AreApart lists = AllPairs HaveNoPoint lists

-- ---- dealt lines

-- the lines of worker i of n: those whose point's key leaves i modulo n, in their order
abbrev pub dealt_to : ℕ → List Pair → ℕ → List Pair
dealt_to n lines i = filter (λ line. point_of line.1 % n == i) lines

-- a list for each worker
abbrev pub dealt_out : ℕ → List Pair → List (List Pair)
dealt_out n lines = map (dealt_to n lines) (range_with_len 0 n)

-- the lines at no place of the four, in their order
abbrev pub other_lines : List ℕ → List Pair → List Pair
other_lines four lines = filter (λ line. not (is_among line.0 four)) lines

-- the lists of each segment of these
abbrev pub dealt : ℕ → List ℕ → List Pair → List (List (List Pair))
dealt n four lines = map (dealt_out n) (segments (other_lines four lines))

-- In each segment a line that moves shares no point with another, and no point stands in the lists of two workers.
abbrev pub SegmentsApart : Type 0
SegmentsApart =
    (lines segment : List Pair) (n : ℕ) → IsIn segment (segments lines) →
    MovesAlone segment × AreApart (dealt_out n segment)

-- ---- what workers make

-- the entries that one thread makes of the lines at the places of the four
abbrev pub opening_entries : List ℕ → List Pair → List Entry
opening_entries four lines = entries_from 0 [] (filter (λ line. is_among line.0 four) lines)

-- The entries are those of the pairs of the lists, each once, those that share a point by their tags, each by the
-- worker of some list. With one list they are in its order.
pub record IsRun (lists : List (List Pair)) (entries : List Entry) : Type 0 where
  pub lines : IsPermutation (flat_map (λ l. l) lists) (map line_of entries)
  pub order : AllPairs (λ d e. share_point d.edit e.edit ≡ true → d.tag < e.tag) entries
  pub workers : All (λ e. e.by < length lists) entries
  pub alone : (l : List Pair) → lists ≡ l ∷ [] → map line_of entries ≡ l

-- The entries are a run of the lists of each segment, those of one segment in front of those of the next.
abbrev pub AreRuns : List (List (List Pair)) → List Entry → Type 0
AreRuns [] entries = entries ≡ []
AreRuns (lists ∷ others) entries =
    (front : List Entry) × (behind : List Entry)
    × (entries ≡ front ++ behind) × IsRun lists front × AreRuns others behind

-- the opening four of a file and runs of its dealt lines keep the file, for any number of workers
abbrev pub RunKeeps : Type 0
RunKeeps =
    (points : List ℕ) (edits : List Edit) (workers : ℕ) (four : FourPlaces) (run : List Entry) →
    opening_four points ≡ Some four → 0 < workers →
    AreRuns (dealt workers (places four) (tagged_lines points edits)) run →
    Keeps points edits workers (opening_entries (places four) (tagged_lines points edits) ++ run)

-- with one worker they are the history of one thread, where they are legal
abbrev pub RunAlone : Type 0
RunAlone =
    (points : List ℕ) (edits : List Edit) (four : FourPlaces) (run : List Entry) →
    opening_four points ≡ Some four → AreRuns (dealt 1 (places four) (tagged_lines points edits)) run →
    IsLegal (opening_entries (places four) (tagged_lines points edits) ++ run) →
    opening_entries (places four) (tagged_lines points edits) ++ run ≡ one_thread points edits

-- ---- edit lines behind points that are there

-- the edit lines of a file, each with its place for a tag
abbrev pub edit_lines : List ℕ → List Edit → List Pair
edit_lines points edits = enumerate_from (length points) edits

-- the lists of each segment of some lines
abbrev pub dealt_lines : ℕ → List Pair → List (List (List Pair))
dealt_lines n lines = map (dealt_out n) (segments lines)

-- the history of one thread of a file's points and runs of its dealt edit lines keep the file, for any number of
-- workers
abbrev pub RunBehindKeeps : Type 0
RunBehindKeeps =
    (points : List ℕ) (edits : List Edit) (workers : ℕ) (four : FourPlaces) (run : List Entry) →
    opening_four points ≡ Some four → 0 < workers → AreRuns (dealt_lines workers (edit_lines points edits)) run →
    Keeps points edits workers (one_thread points [] ++ run)

-- with one worker they are the history of one thread, where they are legal
abbrev pub RunBehindAlone : Type 0
RunBehindAlone =
    (points : List ℕ) (edits : List Edit) (four : FourPlaces) (run : List Entry) →
    opening_four points ≡ Some four → AreRuns (dealt_lines 1 (edit_lines points edits)) run →
    IsLegal (one_thread points [] ++ run) → one_thread points [] ++ run ≡ one_thread points edits
