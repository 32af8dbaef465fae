-- Lists that the parts of a pass do, and a pass that is split, worked with and joined.
use Rattle.std.specs.Prelude.{◌≡◌, ℕ, zero, suc, slice_index_or, ◌+◌, ◌-◌, ◌<◌, ◌≤◌, Result, Ok, Err, IfOk, List, []}
use Rattle.std.specs.Prelude.{◌∷◌, ◌++◌, map, length, All, IsPermutation}
use Rattle.std.proofs.Common.{refl, sym, ◌∙◌, ap, ap₂, subst, inl, inr, arith, get_or, length-append}
use Rattle.std.proofs.lemmas.List.{append-nil, map-append, length-map}
use Rattle.std.proofs.lemmas.List.Sorted.{IsPermutation-sym, IsPermutation-trans}
use Rattle.list_laws.proofs.Cited.{EachLater, all_of_each, both_later, each_of_all, from_append, in_left}
use Rattle.list_laws.proofs.Cited.{in_permutation, later_across, later_left, later_pairs, later_right, later_unmap}
use Rattle.list_laws.proofs.Cited.{mapped_true, pairs_later, related}
use Rattle.point_order.specs.Sets.{IsIn}
use Rattle.edit_history.specs.declared.history.Entry.{Entry}
use Rattle.edit_history.specs.OneThread.{line_of}
use Rattle.cell_store.specs.Meshes.{by_number}
use Rattle.cell_store.proofs.Cited.{sorted_moves}
use Rattle.grid_claims.specs.Passes.{Opened, Standing}
use Rattle.claim_table.specs.Lists.{entries_by}
use Rattle.grid_claims.specs.Tries.{opening_pass, IsSplit, joined}
use Rattle.plain_laws.specs.Running.{Pair, AreApart}
use Rattle.edit_lists.specs.Dealing.{AreTagsAscending, count_in_all, pairs_in}
use Rattle.edit_lists.specs.declared.lists.List as lists
use Rattle.edit_workers.specs.declared.lists.Left.{Left}
use Rattle.edit_workers.specs.Running.{CanRun, AscendAtPoint, AreHalves, ArePartly, AreRunBut, AreWorked, IsOfWorker}
use Rattle.edit_workers.specs.Running.{ArePassesJoined}
use Rattle.edit_workers.specs.Arranging.{IsArranged, IsInPlace}
use Rattle.edit_workers.specs.Rounds.{IsWorkedInRounds}
use Rattle.edit_workers.proofs.Partly.{count_both, all_low, all_high, apart_low, apart_high, partly_both}

-- ---- a list of lists by places

-- a place in the first of two lists has what it has there
front_at : (l m : List (List Pair)) (i : ℕ) → i < length l → slice_index_or (l ++ m) i [] ≡ slice_index_or l i []
front_at [] m i q = absurd (omega (arith, q))
front_at (x ∷ l) m zero q = refl
front_at (x ∷ l) m (suc i) q = front_at l m i (omega (arith, q))

-- a place behind it has what the second has
behind_at : (l m : List (List Pair)) (i : ℕ) → slice_index_or (l ++ m) (length l + i) [] ≡ slice_index_or m i []
behind_at [] m i = let e : 0 + i ≡ i = omega arith in ap (λ (n : ℕ). slice_index_or m n []) e
behind_at (x ∷ l) m i =
    let e : length (x ∷ l) + i ≡ suc (length l + i) =
    omega arith in ap (λ (n : ℕ). slice_index_or (x ∷ l ++ m) n []) e ∙ behind_at l m i

-- ---- one list

-- the first list of some
first_list : List (List Pair) → List Pair
first_list [] = []
first_list (l ∷ ls) = l

-- two lists each of which is alone are one where these are
pub only_list : (l m : List Pair) → l ∷ [] ≡ m ∷ [] → l ≡ m
unfolding first_list
only_list l m e = ap first_list e

module _ (list arranged left : List Pair) (old new : Standing) (is : IsArranged list arranged)
    (own : old.parts ≡ old.table.parts → arranged ≡ list) (fresh : old.made ≡ []) (one : old.parts ≡ 1)
    (w : IsWorkedInRounds arranged left old new) where
  -- the entries that the pass made
  abbrev es : List Entry
  es = w.entries

  -- the pass has made these
  made_is : new.made ≡ es
  made_is = ap (λ (s : Standing). s.made) w.pass.new_is ∙ ap (λ (l : List Entry). l ++ es) fresh

  -- their pairs and those left over are those made and those left over
  all_pairs : map line_of es ++ left ≡ w.made ++ left
  all_pairs = ap (λ (l : List Pair). l ++ left) w.entries_are.pairs_are

  -- together they are the pairs of the list
  lines : IsPermutation (list ++ []) (map line_of es ++ left)
  lines =
      IsPermutation-trans (list ++ []) arranged (map line_of es ++ left)
      (subst (λ (l : List Pair). IsPermutation l arranged) (sym (append-nil list)) is.same)
      (subst (IsPermutation arranged) (sym all_pairs) w.same)

  -- those made and then those left over
  ascending : EachLater AscendAtPoint (map line_of es ++ left)
  ascending =
      subst (EachLater AscendAtPoint) (sym all_pairs)
      (pairs_later AscendAtPoint (w.made ++ left) (w.order is.order))

  -- the number rises, and the tag where the points are one
  abbrev Climbs : Entry → Entry → Type 0
  Climbs d e = d.number < e.number × AscendAtPoint (line_of d) (line_of e)

  -- so it does from each entry to each later one
  climbs : EachLater Climbs es
  climbs =
      both_later (λ (d e : Entry). d.number < e.number) (λ (d e : Entry). AscendAtPoint (line_of d) (line_of e)) es
      (pairs_later (λ (d e : Entry). d.number < e.number) es w.entries_are.ascending)
      (later_unmap line_of AscendAtPoint es (later_left AscendAtPoint (map line_of es) left ascending))

  -- where the number of an entry is lower, so is its tag if the points are one
  order : (d e : Entry) → IsIn d es → IsIn e es → d.number < e.number → AscendAtPoint (line_of d) (line_of e)
  order d e i j n same =
      elim (related Climbs es d e climbs i j) [
        | inl q ↦ let m : d.number ≡ e.number = ap (λ (e : Entry). e.number) q in absurd (omega (arith, m, n))
        | inr (inl r) ↦ r.1 same
        | inr (inr r) ↦ let m = r.0 in absurd (omega (arith, m, n))
      ]

  -- the list was done in part
  partly : ArePartly (list ∷ []) left es
  partly = record {
    lines = lines;
    order = order;
    behind = λ d p i j. later_across AscendAtPoint (map line_of es) left ascending (line_of d) p
        (mapped_true line_of d es i) j;
    later = later_pairs AscendAtPoint left (later_right AscendAtPoint (map line_of es) left ascending);
  }

  -- each entry is of a pair in the list of its part
  owned : (e : Entry) → IsIn e es → IsOfWorker old.first (list ∷ []) e
  owned e i =
      let b = each_of_all (λ (e : Entry). e.by ≡ old.first) es w.entries_are.by_pass e i in
      let none : e.by - old.first ≡ 0 = omega (arith, b) in
      subst (λ (n : ℕ). IsIn (line_of e) (slice_index_or (list ∷ []) n [])) (sym none)
      (subst (IsIn (line_of e)) (append-nil list)
      (in_permutation (map line_of es ++ left) (list ++ []) (line_of e)
      (IsPermutation-sym (list ++ []) (map line_of es ++ left) lines)
      (in_left (line_of e) (map line_of es) left (mapped_true line_of e es i))))

  -- so a list done by a pass of one part is a list that was worked on
  pub worked_one : AreWorked (list ∷ []) left old new
  worked_one = record {
    still = (
      ap (λ (s : Standing). s.table) w.pass.new_is,
      ap (λ (s : Standing). s.first) w.pass.new_is,
      ap (λ (s : Standing). s.parts) w.pass.new_is,
    );
    partly = subst (ArePartly (list ∷ []) left) (sym made_is) partly;
    workers =
        subst (All (λ (e : Entry). (old.first ≤ e.by) × (e.by < old.first + old.parts))) (sym made_is)
        (all_of_each (λ (e : Entry). (old.first ≤ e.by) × (e.by < old.first + old.parts)) es
        (λ e i.
        let b = each_of_all (λ (e : Entry). e.by ≡ old.first) es w.entries_are.by_pass e i in
        (omega (arith, b), omega (arith, b, one))));
    owned = subst (λ (l : List Entry). (e : Entry) → IsIn e l → IsOfWorker old.first (list ∷ []) e) (sym made_is) owned;
    alone = λ l e zero all.
        let a = w.alone (zero, all) in
        (a.0, ap (map line_of) made_is ∙ w.entries_are.pairs_are ∙ a.1 ∙ own all ∙ only_list list l e);
  }

-- a slice of one list
one_of : {X : Type 0} (xs : List X) (x : X) → length xs ≡ 1 → x ≡ get_or xs 0 x → xs ≡ x ∷ []
one_of [] x l e = absurd (omega (arith, l))
one_of {X} (y ∷ []) x l e = ap (λ (z : X). z ∷ []) (sym e)
one_of (y ∷ z ∷ xs) x l e = absurd (omega (arith, l))

-- a slice of one list is done where its list was done in rounds, in the order that is in place
pub slice_worked : (ls : List lists.List) (x : lists.List) (arranged left : List Pair) (table : Opened) (count : ℕ)
    (old new : Standing) → length ls ≡ 1 → x ≡ get_or ls 0 x → CanRun table (pairs_in ls) old → count ≡ table.parts →
    IsInPlace count x.pairs.items arranged → IsWorkedInRounds arranged left old new →
    AreWorked (pairs_in ls) left old new
slice_worked ls x arranged left table count old new l e can parts is w =
    let f : pairs_in ls ≡ x.pairs.items ∷ [] = ap pairs_in (one_of ls x l e) in
    let g : CanRun table (x.pairs.items ∷ []) old = subst (λ (t : List (List Pair)). CanRun table t old) f can in
    let all : old.parts ≡ old.table.parts → arranged ≡ x.pairs.items =
    λ own. is.alone (parts ∙ sym (ap (λ (t : Opened). t.parts) g.table_is) ∙ sym own ∙ g.parts) in
    subst (λ (t : List (List Pair)). AreWorked t left old new) (sym f)
    (worked_one x.pairs.items arranged left old new is.is_arranged all g.fresh g.parts w)

-- the tags of that list ascend
pub slice_tags : (ls : List lists.List) (x : lists.List) (table : Opened) (old : Standing) → length ls ≡ 1 →
    x ≡ get_or ls 0 x → CanRun table (pairs_in ls) old → AreTagsAscending x.pairs.items
slice_tags ls x table old l e can =
    let f : pairs_in ls ≡ x.pairs.items ∷ [] = ap pairs_in (one_of ls x l e) in
    let g : CanRun table (x.pairs.items ∷ []) old = subst (λ (t : List (List Pair)). CanRun table t old) f can in
    g.tags 0 x.pairs.items (omega arith)

-- and the pass may make as many edits as it has pairs
pub slice_allowance : (ls : List lists.List) (x : lists.List) (table : Opened) (old : Standing) → length ls ≡ 1 →
    x ≡ get_or ls 0 x → CanRun table (pairs_in ls) old → length x.pairs.items ≤ old.left
slice_allowance ls x table old l e can =
    let f : pairs_in ls ≡ x.pairs.items ∷ [] = ap pairs_in (one_of ls x l e) in
    let g : CanRun table (x.pairs.items ∷ []) old = subst (λ (t : List (List Pair)). CanRun table t old) f can in
    let h = g.left in
    omega (arith, h, length-append x.pairs.items [])

-- ---- two halves

-- where there is no entry none is by these parts
no_entries : (first parts : ℕ) (l : List Entry) → l ≡ [] → entries_by first parts l ≡ []
unfolding entries_by
no_entries first parts l e = ap (entries_by first parts) e

module _ (lows highs : List (List Pair)) (old mid other : Standing) (some-low : 0 < length lows)
    (some-high : 0 < length highs) (split : IsSplit (length highs) (count_in_all highs) old mid other) where
  module _ (table : Opened) (can : CanRun table (lows ++ highs) old) where
    -- the pass that keeps the first parts can run the first lists
    pub can_low : CanRun table lows mid
    can_low = record {
      some = some-low;
      short = let s = can.short in omega (arith, s, length-append lows highs);
      table_is = ap (λ (s : Standing). s.table) split.new_is ∙ can.table_is;
      parts = let e : mid.parts ≡ old.parts - length highs = ap (λ (s : Standing). s.parts) split.new_is in
          let f = can.parts in omega (arith, e, f, length-append lows highs);
      left = let e : mid.left ≡ old.left - count_in_all highs = ap (λ (s : Standing). s.left) split.new_is in
          let f = can.left in let g = count_both lows highs in omega (arith, e, f, g);
      few = let e : mid.left ≡ old.left - count_in_all highs = ap (λ (s : Standing). s.left) split.new_is in
          let f = can.few in omega (arith, e, f);
      fresh = ap (λ (s : Standing). s.made) split.new_is ∙ no_entries old.first (old.parts - length highs) old.made
          can.fresh;
      tags = all_low AreTagsAscending lows highs can.tags;
      apart = apart_low lows highs can.apart;
    }

    -- and the one that was split off can run the others
    pub can_high : CanRun table highs other
    can_high = record {
      some = some-high;
      short = let s = can.short in omega (arith, s, length-append lows highs);
      table_is = ap (λ (s : Standing). s.table) split.other_is ∙ can.table_is;
      parts = ap (λ (s : Standing). s.parts) split.other_is;
      left = let e : other.left ≡ count_in_all highs = ap (λ (s : Standing). s.left) split.other_is in omega (arith, e);
      few = let e : other.left ≡ count_in_all highs = ap (λ (s : Standing). s.left) split.other_is in let f = can.left
          in
          let g = can.few in omega (arith, e, f, g, count_both lows highs);
      fresh = ap (λ (s : Standing). s.made) split.other_is ∙ no_entries (old.first + (old.parts - length highs))
          (length highs) old.made can.fresh;
      tags = all_high AreTagsAscending lows highs can.tags;
      apart = apart_high lows highs can.apart;
    }

  module _ (a b : List Pair) (p q : Standing) (fits : length highs < old.parts) (apart : AreApart (lows ++ highs))
      (low : AreWorked lows a mid p) (high : AreWorked highs b other q) where
    -- the pass of the first lists has the number that the whole one had
    first_p : p.first ≡ old.first
    first_p = low.still.1 ∙ ap (λ (s : Standing). s.first) split.new_is

    -- and as many parts less as the others have lists
    parts_p : p.parts ≡ old.parts - length highs
    parts_p = low.still.2 ∙ ap (λ (s : Standing). s.parts) split.new_is

    -- the other one has a part for each list
    parts_q : q.parts ≡ length highs
    parts_q = high.still.2 ∙ ap (λ (s : Standing). s.parts) split.other_is

    -- the first is a pass of the same table
    pub table_low : p.table ≡ old.table
    table_low = low.still.0 ∙ ap (λ (s : Standing). s.table) split.new_is

    -- and so is the other
    pub table_high : q.table ≡ old.table
    table_high = high.still.0 ∙ ap (λ (s : Standing). s.table) split.other_is

    -- the other's parts come behind those of the first
    pub next : q.first ≡ p.first + p.parts
    next =
        high.still.1 ∙ ap (λ (s : Standing). s.first) split.other_is
        ∙ ap₂ (λ (m n : ℕ). m + n) (sym first_p) (sym parts_p)

    -- the entry is by one of the parts of the whole pass
    abbrev IsOurs : Entry → Type 0
    IsOurs e = (old.first ≤ e.by) × (e.by < old.first + old.parts)

    -- so is each entry of the two
    ours : (e : Entry) → IsIn e (by_number (p.made ++ q.made)) → IsOurs e
    ours e i =
        elim (from_append e p.made q.made (in_permutation (by_number (p.made ++ q.made)) (p.made ++ q.made) e
        (IsPermutation-sym (p.made ++ q.made) (by_number (p.made ++ q.made)) (sorted_moves (p.made ++ q.made)))
        i)) [
          | inl j ↦
              let b = each_of_all (λ (e : Entry). (mid.first ≤ e.by) × (e.by < mid.first + mid.parts)) p.made
              low.workers e j in
              let f : mid.first ≡ old.first = ap (λ (s : Standing). s.first) split.new_is in
              let g : mid.parts ≡ old.parts - length highs = ap (λ (s : Standing). s.parts) split.new_is in
              let l = b.0 in
              let m = b.1 in
              (omega (arith, l, f), omega (arith, m, f, g, fits))
          | inr j ↦
              let b = each_of_all (λ (e : Entry). (other.first ≤ e.by) × (e.by < other.first + other.parts)) q.made
              high.workers e j in
              let f : other.first ≡ old.first + (old.parts - length highs) =
              ap (λ (s : Standing). s.first) split.other_is in
              let g : other.parts ≡ length highs = ap (λ (s : Standing). s.parts) split.other_is in
              let l = b.0 in
              let m = b.1 in
              (omega (arith, l, f), omega (arith, m, f, g, fits))
        ]

    -- and each is of a pair in the list of its part
    owned_both : old.parts ≡ length lows + length highs → (e : Entry) → IsIn e (by_number (p.made ++ q.made)) →
        IsOfWorker old.first (lows ++ highs) e
    owned_both whole e i =
        elim (from_append e p.made q.made (in_permutation (by_number (p.made ++ q.made)) (p.made ++ q.made) e
        (IsPermutation-sym (p.made ++ q.made) (by_number (p.made ++ q.made)) (sorted_moves (p.made ++ q.made)))
        i)) [
          | inl j ↦
              let b = each_of_all (λ (e : Entry). (mid.first ≤ e.by) × (e.by < mid.first + mid.parts)) p.made
              low.workers e j in
              let f : mid.first ≡ old.first = ap (λ (s : Standing). s.first) split.new_is in
              let g : mid.parts ≡ old.parts - length highs = ap (λ (s : Standing). s.parts) split.new_is in
              let l = b.0 in
              let m = b.1 in
              let inside : e.by - old.first < length lows = omega (arith, l, m, f, g, whole, fits) in
              subst (IsIn (line_of e)) (sym (front_at lows highs (e.by - old.first) inside))
              (subst (λ (n : ℕ). IsIn (line_of e) (slice_index_or lows (e.by - n) [])) f (low.owned e j))
          | inr j ↦
              let b = each_of_all (λ (e : Entry). (other.first ≤ e.by) × (e.by < other.first + other.parts)) q.made
              high.workers e j in
              let f : other.first ≡ old.first + (old.parts - length highs) =
              ap (λ (s : Standing). s.first) split.other_is in
              let l = b.0 in
              let place : length lows + (e.by - other.first) ≡ e.by - old.first = omega (arith, l, f, whole, fits) in
              subst (λ (n : ℕ). IsIn (line_of e) (slice_index_or (lows ++ highs) n [])) place
              (subst (IsIn (line_of e)) (sym (behind_at lows highs (e.by - other.first))) (high.owned e j))
        ]

    -- lists that two halves of a pass did are done by the pass that joins them
    pub worked_both : old.parts ≡ length lows + length highs → AreWorked (lows ++ highs) (a ++ b) old (joined p q)
    worked_both whole = record {
      still = (table_low, first_p, omega (arith, parts_p, parts_q, fits));
      partly = partly_both lows highs a b p.made q.made (by_number (p.made ++ q.made)) apart low.partly high.partly
          (sorted_moves (p.made ++ q.made));
      workers = all_of_each IsOurs (by_number (p.made ++ q.made)) ours;
      owned = owned_both whole;
      alone = λ l e zero all. let n : length (lows ++ highs) ≡ 1 = ap length e in
          absurd (omega (arith, n, length-append lows highs, some-low, some-high));
    }

-- ---- halves of a slice

module _ (ls lows highs : List lists.List) (parts allowance : ℕ) (table : Opened) (old mid other : Standing)
    (cut : ls ≡ lows ++ highs) (many : parts ≡ length highs) (all : allowance ≡ count_in_all (pairs_in highs))
    (some-low : 0 < length lows) (some-high : 0 < length highs) (can : CanRun table (pairs_in ls) old)
    (split : IsSplit parts allowance old mid other) where
  -- the lists of a slice are those of its two halves
  pairs_cut : pairs_in ls ≡ pairs_in lows ++ pairs_in highs
  pairs_cut = ap pairs_in cut ∙ map-append (λ (l : lists.List). l.pairs.items) lows highs

  -- the first half has a list
  some_low' : 0 < length (pairs_in lows)
  some_low' = omega (arith, length-map lows (λ (l : lists.List). l.pairs.items), some-low)

  -- and so has the second
  some_high' : 0 < length (pairs_in highs)
  some_high' = omega (arith, length-map highs (λ (l : lists.List). l.pairs.items), some-high)

  -- the parts that are given are as many as the second half has lists
  parts_are : parts ≡ length (pairs_in highs)
  parts_are = many ∙ sym (length-map highs (λ (l : lists.List). l.pairs.items))

  -- the pass can run both halves
  can_cut : CanRun table (pairs_in lows ++ pairs_in highs) old
  can_cut = subst (λ (l : List (List Pair)). CanRun table l old) pairs_cut can

  -- it was split by the lists and the pairs of the second
  split_cut : IsSplit (length (pairs_in highs)) (count_in_all (pairs_in highs)) old mid other
  split_cut =
      subst (λ (n : ℕ). IsSplit n (count_in_all (pairs_in highs)) old mid other) parts_are
      (subst (λ (n : ℕ). IsSplit parts n old mid other) all split)

  -- the second half has fewer lists than the pass has parts
  fits : length (pairs_in highs) < old.parts
  fits = let e = can_cut.parts in omega (arith, e, length-append (pairs_in lows) (pairs_in highs), some_low')

  -- what both halves did and left over, joined, is the work of the whole pass
  joined_both : (a b : List Pair) (p q : Standing) → AreWorked (pairs_in lows) a mid p →
      AreWorked (pairs_in highs) b other q → ArePassesJoined table (pairs_in ls) old a b p q
  joined_both a b p q low high = record {
    low =
        table_low (pairs_in lows) (pairs_in highs) old mid other some_low' some_high' split_cut a b p q fits
        can_cut.apart low high ∙ can_cut.table_is;
    high =
        table_high (pairs_in lows) (pairs_in highs) old mid other some_low' some_high' split_cut a b p q fits
        can_cut.apart low high ∙ can_cut.table_is;
    next =
        next (pairs_in lows) (pairs_in highs) old mid other some_low' some_high' split_cut a b p q fits can_cut.apart
        low high;
    worked =
        subst (λ (l : List (List Pair)). AreWorked l (a ++ b) old (joined p q)) (sym pairs_cut)
        (worked_both (pairs_in lows) (pairs_in highs) old mid other some_low' some_high' split_cut a b p q fits
        can_cut.apart low high (can_cut.parts ∙ length-append (pairs_in lows) (pairs_in highs)));
  }

  -- the two can do the halves of the slice
  pub slice_halves : AreHalves table (pairs_in ls) (pairs_in lows) (pairs_in highs) old mid other
  slice_halves = record {
    low = can_low (pairs_in lows) (pairs_in highs) old mid other some_low' some_high' split_cut table can_cut;
    high = can_high (pairs_in lows) (pairs_in highs) old mid other some_low' some_high' split_cut table can_cut;
    both = joined_both;
  }

-- what holds of a pass and of what it left over holds of an answer that has these two
pub of_answer :
    {E : Type 0} (P : Standing → List Pair → Type 0) (x : Result (Standing × Left) E) (p : Standing) (l : List Pair) →
    P p l →
    IfOk x (λ r. r.0 ≡ p) → IfOk x (λ r. r.1.pairs.items ≡ l) → IfOk x (λ r. P r.0 r.1.pairs.items)
of_answer P (Ok r) p l holds e f = subst (λ (y : Standing × List Pair). P y.0 y.1) (λ i. (sym e i, sym f i)) holds
of_answer P (Err _) p l holds e f = tt

-- ---- all lists

-- lists done by a pass of all parts, on a new table, are a run but for what is left over
pub all_worked : (lists : List (List Pair)) (left : List Pair) (t : Opened) (allowance : ℕ) (new : Standing) →
    t.parts ≡ length lists → AreWorked lists left (opening_pass t allowance) new →
    AreRunBut lists left t.opening (t.opening ++ new.made)
all_worked lists left t allowance new parts w = record {
  more = new.made;
  history = refl;
  partly = w.partly;
  workers = all_of_each (λ (e : Entry). e.by < length lists) new.made
      (λ e i. let b = each_of_all (λ (e : Entry). (0 ≤ e.by) × (e.by < 0 + t.parts)) new.made w.workers e i in
      let m = b.1 in omega (arith, m, parts));
  owned = w.owned;
  alone = λ l e. w.alone l e refl refl;
}

-- so it is with the history of the mesh once the table is closed
pub mesh_run : (lists : List (List Pair)) (left : List Pair) (t : Opened) (allowance : ℕ) (old new : Standing)
    (h k : List Entry) → old ≡ opening_pass t allowance → t.parts ≡ length lists → t.opening ≡ h →
    AreWorked lists left old new → k ≡ t.opening ++ new.made → AreRunBut lists left h k
mesh_run lists left t allowance old new h k e parts f w g =
    subst (λ (l : List Entry). AreRunBut lists left l k) f
    (subst (AreRunBut lists left t.opening) (sym g) (all_worked lists left t allowance new parts
    (subst (λ (s : Standing). AreWorked lists left s new) e w)))
