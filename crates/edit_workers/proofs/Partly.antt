-- Lists that were done in parts.
use Rattle.std.specs.Prelude.{◌≡◌, ◌≢◌, ℕ, ◌+◌, ◌<◌, ◌≤◌, Bool, true, false, ◌&&◌, ◌==◌, List, [], ◌∷◌, ◌++◌, map}
use Rattle.std.specs.Prelude.{length, All, AllPairs, IsPermutation}
use Rattle.std.specs.List.{flat_map}
use Rattle.std.specs.List.Sorted.{IsNonDecreasingBy}
use Rattle.std.proofs.Common.{refl, sym, ◌∙◌, ap, subst, inl, inr, arith, get_or, length-append}
use Rattle.std.proofs.lemmas.Bool.Decides.{nat_tests}
use Rattle.std.proofs.lemmas.Grind.{flat_map-append}
use Rattle.std.proofs.lemmas.List.{map-append, append_assoc, append-nil, length-map}
use Rattle.std.proofs.lemmas.List.Sorted.{IsPermutation-sym, IsPermutation-trans, IsPermutation-map}
use Rattle.std.proofs.lemmas.List.Sorted.{IsPermutation-append, IsPermutation-append_left, IsPermutation-append_right}
use Rattle.std.proofs.lemmas.List.Sorted.{IsPermutation-append_comm, length_permutation}
use Rattle.std.proofs.lemmas.Map.Keys.{IsDistinct-from_apart, IsDistinct-IsPermutation, apart_from_distinct}
use Rattle.list_laws.proofs.Cited.{EachLater, all_of_each, both_later, each_of_all, flat_from, from_append, in_left}
use Rattle.list_laws.proofs.Cited.{in_permutation, in_right, later_across, later_append, later_left, later_pairs}
use Rattle.list_laws.proofs.Cited.{later_right, later_unmap, later_weaken, mapped_true, not_both, pairs_later}
use Rattle.point_order.specs.Sets.{IsIn}
use Rattle.edit_history.specs.declared.history.Entry.{Entry}
use Rattle.edit_history.specs.Edits.{share_point, point_of, after}
use Rattle.edit_history.specs.Histories.{IsLegalFrom, IsLegal}
use Rattle.edit_history.specs.OneThread.{line_of}
use Rattle.plain_laws.specs.Running.{Pair, HaveNoPoint, AreApart, MovesAlone, clash}
use Rattle.plain_laws.proofs.Cited.{alone_in_any_order, one_point}
use Rattle.edit_lists.specs.Dealing.{all_of, count_in_all}
use Rattle.edit_workers.specs.Running.{IsSegmentRun, AscendAtPoint, ArePartly, AreRunBut, AreApplied, AreByTag}
use Rattle.edit_workers.proofs.Sharing.{same_shares}

-- ---- two parts of the lists

-- two groups of lists have as many pairs as both together
pub count_both : (low high : List (List Pair)) → count_in_all (low ++ high) ≡ count_in_all low + count_in_all high
count_both low high =
    ap length (flat_map-append (λ (l : List Pair). l) low high)
    ∙ length-append (flat_map (λ l. l) low) (flat_map (λ l. l) high)

-- what holds of all of two groups holds of the first
pub all_low : {X : Type 0} (P : X → Type 0) (low high : List X) → All P (low ++ high) → All P low
all_low {X} P low high h = all_of_each P low (λ (x : X) i. each_of_all P (low ++ high) h x (in_left x low high i))

-- and of the second
pub all_high : {X : Type 0} (P : X → Type 0) (low high : List X) → All P (low ++ high) → All P high
all_high {X} P low high h = all_of_each P high (λ (x : X) i. each_of_all P (low ++ high) h x (in_right x low high i))

module _ (low high : List (List Pair)) (apart : AreApart (low ++ high)) where
  -- no point stands in a list and in a later one
  later : EachLater HaveNoPoint (low ++ high)
  later = pairs_later HaveNoPoint (low ++ high) apart

  -- so it is in the first group
  pub apart_low : AreApart low
  apart_low = later_pairs HaveNoPoint low (later_left HaveNoPoint low high later)

  -- and in the second
  pub apart_high : AreApart high
  apart_high = later_pairs HaveNoPoint high (later_right HaveNoPoint low high later)

  -- no point stands in a list of the first and in one of the second
  pub apart_across : (p q : Pair) → IsIn p (flat_map (λ l. l) low) → IsIn q (flat_map (λ l. l) high) →
      point_of p.1 ≢ point_of q.1
  apart_across p q i j =
      let l = flat_from (λ (l : List Pair). l) low p i in
      let m = flat_from (λ (l : List Pair). l) high q j in
      λ e. not_both (share_point p.1 q.1) (same_shares p.1 q.1 e)
      (later_across HaveNoPoint low high later l.0 m.0 l.1 m.1 p q l.2 m.2)

-- exchanged in the middle
exchanged : {X : Type 0} (a b c d : List X) → IsPermutation ((a ++ b) ++ (c ++ d)) ((a ++ c) ++ (b ++ d))
exchanged {X} a b c d =
    let e : (a ++ b) ++ (c ++ d) ≡ a ++ ((b ++ c) ++ d) =
    append_assoc a b (c ++ d) ∙ ap (λ (l : List X). a ++ l) (sym (append_assoc b c d)) in
    let f : a ++ ((c ++ b) ++ d) ≡ (a ++ c) ++ (b ++ d) =
    ap (λ (l : List X). a ++ l) (append_assoc c b d) ∙ sym (append_assoc a c (b ++ d)) in
    subst (λ (l : List X). IsPermutation l ((a ++ c) ++ (b ++ d))) (sym e)
    (subst (IsPermutation (a ++ ((b ++ c) ++ d))) f (IsPermutation-append_right a ((b ++ c) ++ d) ((c ++ b) ++ d)
    (IsPermutation-append_left d (b ++ c) (c ++ b) (IsPermutation-append_comm b c))))

module _ (lists : List (List Pair)) (left : List Pair) (entries : List Entry) (part : ArePartly lists left entries)
  where
    -- what was made or left over is of the lists
    pub made_in : (d : Entry) → IsIn d entries → IsIn (line_of d) (flat_map (λ l. l) lists)
    made_in d i =
        in_permutation (map line_of entries ++ left) (flat_map (λ l. l) lists) (line_of d)
        (IsPermutation-sym (flat_map (λ l. l) lists) (map line_of entries ++ left) part.lines)
        (in_left (line_of d) (map line_of entries) left (mapped_true line_of d entries i))

    -- and so is a pair that is left over
    pub left_in : (p : Pair) → IsIn p left → IsIn p (flat_map (λ l. l) lists)
    left_in p i =
        in_permutation (map line_of entries ++ left) (flat_map (λ l. l) lists) p
        (IsPermutation-sym (flat_map (λ l. l) lists) (map line_of entries ++ left) part.lines)
        (in_right p (map line_of entries) left i)

module _ (low high : List (List Pair)) (a b : List Pair) (es fs made : List Entry) (apart : AreApart (low ++ high))
    (first : ArePartly low a es) (second : ArePartly high b fs) (moved : IsPermutation (es ++ fs) made) where
  -- an entry of both, put by number, is one of the first group's or of the second's
  from_made : (d : Entry) → IsIn d made → IsIn d (es ++ fs)
  from_made d i = in_permutation made (es ++ fs) d (IsPermutation-sym (es ++ fs) made moved) i

  -- a pair of the first group and one of the second are not of one point
  never : (p q : Pair) → IsIn p (flat_map (λ l. l) low) → IsIn q (flat_map (λ l. l) high) →
      point_of p.1 ≡ point_of q.1 → ⊥
  never p q i j e = apart_across low high apart p q i j e

  -- the pairs of both groups are those of the entries and those left over, each once
  lines : IsPermutation (flat_map (λ l. l) (low ++ high)) (map line_of made ++ (a ++ b))
  lines =
      let e = flat_map-append (λ (l : List Pair). l) low high in
      let both = IsPermutation-append (flat_map (λ l. l) low) (map line_of es ++ a) (flat_map (λ l. l) high)
      (map line_of fs ++ b) first.lines second.lines in
      let middle = exchanged (map line_of es) a (map line_of fs) b in
      let kept = IsPermutation-append_left (a ++ b) (map line_of es ++ map line_of fs) (map line_of made)
      (subst (λ (l : List Pair). IsPermutation l (map line_of made)) (map-append line_of es fs)
      (IsPermutation-map line_of (es ++ fs) made moved)) in
      subst (λ (l : List Pair). IsPermutation l (map line_of made ++ (a ++ b))) (sym e)
      (IsPermutation-trans (flat_map (λ l. l) low ++ flat_map (λ l. l) high)
      ((map line_of es ++ a) ++ (map line_of fs ++ b)) (map line_of made ++ (a ++ b)) both
      (IsPermutation-trans ((map line_of es ++ a) ++ (map line_of fs ++ b))
      ((map line_of es ++ map line_of fs) ++ (a ++ b)) (map line_of made ++ (a ++ b)) middle kept))

  -- where the number of an entry is lower, so is its tag if the points are one
  order : (d e : Entry) → IsIn d made → IsIn e made → d.number < e.number → AscendAtPoint (line_of d) (line_of e)
  order d e i j number same =
      elim (from_append d es fs (from_made d i)) [
        | inl k ↦ elim (from_append e es fs (from_made e j)) [
          | inl m ↦ first.order d e k m number same
          | inr m ↦ absurd (never (line_of d) (line_of e) (made_in low a es first d k) (made_in high b fs second e m)
              same)
        ]
        | inr k ↦ elim (from_append e es fs (from_made e j)) [
          | inl m ↦ absurd (never (line_of e) (line_of d) (made_in low a es first e m) (made_in high b fs second d k)
              (sym same))
          | inr m ↦ second.order d e k m number same
        ]
      ]

  -- a pair that is left over has a higher tag than an entry of its point
  behind : (d : Entry) (p : Pair) → IsIn d made → IsIn p (a ++ b) → AscendAtPoint (line_of d) p
  behind d p i j same =
      elim (from_append d es fs (from_made d i)) [
        | inl k ↦ elim (from_append p a b j) [
          | inl m ↦ first.behind d p k m same
          | inr m ↦ absurd (never (line_of d) p (made_in low a es first d k) (left_in high b fs second p m) same)
        ]
        | inr k ↦ elim (from_append p a b j) [
          | inl m ↦ absurd (never p (line_of d) (left_in low a es first p m) (made_in high b fs second d k) (sym same))
          | inr m ↦ second.behind d p k m same
        ]
      ]

  -- and those left over stand by their tags where the points are one
  left_later : EachLater AscendAtPoint (a ++ b)
  left_later =
      later_append AscendAtPoint a b (pairs_later AscendAtPoint a first.later)
      (pairs_later AscendAtPoint b second.later) (λ p q i j same. absurd
      (never p q (left_in low a es first p i) (left_in high b fs second q j) same))

  -- so two groups that were done in part are one that was
  pub partly_both : ArePartly (low ++ high) (a ++ b) made
  partly_both = record {
    lines = lines;
    order = order;
    behind = behind;
    later = later_pairs AscendAtPoint (a ++ b) left_later;
  }

-- ---- numbers of a legal history

-- an entry of a history that is numbered from n on has a number of n or more
low_numbers : (n : ℕ) (s : List ℕ) (h : List Entry) → IsLegalFrom n s h → (e : Entry) → IsIn e h → n ≤ e.number
low_numbers n s [] l e i = absurd i
low_numbers n s (d ∷ h) l e (inl q) =
    let m : n ≡ e.number = sym l.0 ∙ ap (λ (e : Entry). e.number) q in omega (arith, m)
low_numbers n s (d ∷ h) l e (inr i) = let m = low_numbers (n + 1) (after s d.edit) h l.2 e i in omega (arith, m)

-- so the numbers of a legal history rise
numbers_rise : (n : ℕ) (s : List ℕ) (h : List Entry) → IsLegalFrom n s h →
    EachLater (λ (d e : Entry). d.number < e.number) h
numbers_rise n s [] l = tt
numbers_rise n s (d ∷ h) l = (
  λ e i. let m = low_numbers (n + 1) (after s d.edit) h l.2 e i in let z = l.0 in omega (arith, m, z),
  numbers_rise (n + 1) (after s d.edit) h l.2,
)

-- ---- pairs by their tags

-- pairs sorted by their tags are so: none has a higher tag than a later one
pub tags_in_order : (l : List Pair) → IsNonDecreasingBy (λ p. p.0) l → AllPairs (λ p q. p.0 ≤ q.0) l
tags_in_order l h i j d m n = h i j d (omega arith) n

-- the two pairs are of one point and have one tag
abbrev pub is_same : Pair → Pair → Bool
is_same p q = (point_of p.1 == point_of q.1) && (p.0 == q.0)

-- whether they are does not depend on which is first
pub same_flips : (p q : Pair) → is_same p q ≡ is_same q p
same_flips p q = flips (point_of p.1) (point_of q.1) p.0 q.0
  where
    flips : (a b c d : ℕ) → ((a == b) && (c == d)) ≡ ((b == a) && (d == c))
    flips a b c d = grind (arith, nat_tests)

-- pairs that stand by their tags where the points are one do so when they are sorted by tags
pub by_tags : (left sorted : List Pair) → AllPairs AscendAtPoint left → AreByTag left sorted →
    AllPairs AscendAtPoint sorted
by_tags left sorted h s i j d l m same =
    let differ = IsDistinct-IsPermutation is_same same_flips left sorted s.same
    (IsDistinct-from_apart is_same left (λ i j d l m. none (get_or left i d) (get_or left j d) (h i j d l m))) in
    strict (get_or sorted i d) (get_or sorted j d) (apart_from_distinct is_same sorted i j d differ l m)
    (s.order i j d l m) same
  where
    none : (p q : Pair) → AscendAtPoint p q → is_same p q ≡ false
    none p q f = by (point_of p.1) (point_of q.1) p.0 q.0 f
      where
        by : (a b c d : ℕ) → (a ≡ b → c < d) → ((a == b) && (c == d)) ≡ false
        by a b c d f = grind (arith, nat_tests)

    strict : (p q : Pair) → is_same p q ≡ false → p.0 ≤ q.0 → point_of p.1 ≡ point_of q.1 → p.0 < q.0
    strict p q e f same = by (point_of p.1) (point_of q.1) p.0 q.0 e f same
      where
        by : (a b c d : ℕ) → ((a == b) && (c == d)) ≡ false → c ≤ d → a ≡ b → c < d
        by a b c d e f same = grind (arith, nat_tests)

-- ---- the whole run

-- the entries that were made and the pairs that are left over are as many as the pairs of the lists
pub room_left : (lists : List (List Pair)) (left sorted : List Pair) (h k : List Entry) → AreRunBut lists left h k →
    AreByTag left sorted → length k + length sorted ≡ length h + count_in_all lists
room_left lists left sorted h k but tags =
    let a : length k ≡ length h + length but.more = ap length but.history ∙ length-append h but.more in
    let b : length (map line_of but.more ++ left) ≡ count_in_all lists =
    length_permutation (flat_map (λ l. l) lists) (map line_of but.more ++ left) but.partly.lines in
    omega (
      arith,
      a,
      b,
      length-append (map line_of but.more) left,
      length-map but.more line_of,
      length_permutation left sorted tags.same,
    )

module _ (lists : List (List Pair)) (left sorted : List Pair) (h k m : List Entry) (some : 0 < length lists)
    (but : AreRunBut lists left h k) (tags : AreByTag left sorted) (applied : AreApplied sorted k m)
    (legal : IsLegal k) (alone : MovesAlone (all_of lists)) where
  -- the entries that the workers made
  abbrev es : List Entry
  es = but.more

  -- the entries of what was left over
  abbrev fs : List Entry
  fs = applied.more

  -- where the points are one the tag rises
  abbrev SamePoint : Entry → Entry → Type 0
  SamePoint d e = point_of d.edit ≡ point_of e.edit → d.tag < e.tag

  -- the numbers of the workers' entries rise
  rising : EachLater (λ (d e : Entry). d.number < e.number) es
  rising =
      later_right (λ (d e : Entry). d.number < e.number) h es (numbers_rise 0 [] (h ++ es)
      (subst IsLegal but.history legal))

  -- so their tags rise where the points are one
  first_part : EachLater SamePoint es
  first_part =
      later_weaken (λ (d e : Entry). d.number < e.number) SamePoint es
      (λ d e i j n same. but.partly.order d e i j n same) rising

  -- and so do those of what was left over
  second_part : EachLater SamePoint fs
  second_part =
      later_unmap line_of AscendAtPoint fs (subst (EachLater AscendAtPoint) (sym applied.pairs_are)
      (pairs_later AscendAtPoint sorted (by_tags left sorted but.partly.later tags)))

  -- each of these is of a pair that was left over
  from_left : (e : Entry) → IsIn e fs → IsIn (line_of e) left
  from_left e i =
      in_permutation sorted left (line_of e) (IsPermutation-sym left sorted tags.same)
      (subst (IsIn (line_of e)) applied.pairs_are (mapped_true line_of e fs i))

  -- and so do those of both, one behind the other
  both_parts : EachLater SamePoint (es ++ fs)
  both_parts =
      later_append SamePoint es fs first_part second_part (λ d e i j same. but.partly.behind d (line_of e) i
      (from_left e j) same)

  -- together they are the pairs of the lists, each once
  all_lines : IsPermutation (flat_map (λ l. l) lists) (map line_of (es ++ fs))
  all_lines =
      let e : map line_of es ++ sorted ≡ map line_of (es ++ fs) =
      ap (λ (l : List Pair). map line_of es ++ l) (sym applied.pairs_are) ∙ sym (map-append line_of es fs) in
      subst (IsPermutation (flat_map (λ l. l) lists)) e
      (IsPermutation-trans (flat_map (λ l. l) lists) (map line_of es ++ left) (map line_of es ++ sorted)
      but.partly.lines (IsPermutation-append_right (map line_of es) left sorted tags.same))

  -- those that move share no point with another
  abbrev Calm : Pair → Pair → Type 0
  Calm x y = clash x y ≡ false

  -- so no two entries clash
  calm : EachLater (λ (d e : Entry). Calm (line_of d) (line_of e)) (es ++ fs)
  calm =
      later_unmap line_of Calm (es ++ fs)
      (pairs_later Calm (map line_of (es ++ fs))
      (alone_in_any_order (all_of lists) (map line_of (es ++ fs)) all_lines alone))

  -- each entry is by a worker of some list
  by_workers : All (λ e. e.by < length lists) (es ++ fs)
  by_workers =
      all_of_each (λ (e : Entry). e.by < length lists) (es ++ fs)
      (λ e i. elim (from_append e es fs i) [
        | inl j ↦ each_of_all (λ (e : Entry). e.by < length lists) es but.workers e j
        | inr j ↦ let z = each_of_all (λ (e : Entry). e.by ≡ 0) fs applied.by_none e j in omega (arith, z, some)
      ])

  -- with one list they are its pairs in their order
  nothing_left : (l : List Pair) → lists ≡ l ∷ [] → map line_of (es ++ fs) ≡ l
  nothing_left l e =
      let a = but.alone l e in
      let none : sorted ≡ [] = no_length sorted (length_permutation left sorted tags.same ∙ ap length a.0) in
      map-append line_of es fs ∙ ap (λ (t : List Pair). map line_of es ++ t) (applied.pairs_are ∙ none)
      ∙ append-nil (map line_of es) ∙ a.1
    where
      no_length : (l : List Pair) → length l ≡ 0 → l ≡ []
      no_length [] e = refl
      no_length (x ∷ l) e = absurd (omega (arith, e))

  -- what the workers made, and then what was left over by tag, is a run of the segment
  pub whole_run : IsSegmentRun lists h m
  whole_run = record {
    more = es ++ fs;
    history = applied.history ∙ ap (λ (l : List Entry). l ++ fs) but.history ∙ append_assoc h es fs;
    run = record {
      lines = all_lines;
      order = later_pairs (λ (d e : Entry). share_point d.edit e.edit ≡ true → d.tag < e.tag) (es ++ fs)
          (later_weaken (λ (d e : Entry). SamePoint d e × Calm (line_of d) (line_of e))
          (λ (d e : Entry). share_point d.edit e.edit ≡ true → d.tag < e.tag) (es ++ fs)
          (λ d e i j r shared. r.0 (one_point (line_of d) (line_of e) shared r.1))
          (both_later SamePoint (λ (d e : Entry). Calm (line_of d) (line_of e)) (es ++ fs) both_parts calm));
      workers = by_workers;
      alone = nothing_left;
    };
    ends = record {
      made = es;
      late = fs;
      both = refl;
      owned = but.owned;
      by_none = applied.by_none;
      tags = later_pairs (λ (d e : Entry). d.tag ≤ e.tag) fs (later_unmap line_of (λ (p q : Pair). p.0 ≤ q.0) fs
          (subst (EachLater (λ (p q : Pair). p.0 ≤ q.0)) (sym applied.pairs_are)
          (pairs_later (λ (p q : Pair). p.0 ≤ q.0) sorted tags.order)));
    };
  }
