-- The opening four and runs of the dealt lines keep the file.
use Rattle.std.specs.Prelude.{◌≡◌, ℕ, zero, suc, ◌+◌, ◌*◌, ◌%◌, ◌<◌, ◌≤◌, Bool, true, false, cond, not, ◌&&◌, ◌||◌}
use Rattle.std.specs.Prelude.{◌==◌, nat_lt, List, [], ◌∷◌, ◌++◌, map, length, take, slice_index, Option, Some, IfSome}
use Rattle.std.specs.Prelude.{IsPermutation}
use Rattle.std.specs.List.{filter, flat_map, range_with_len}
use Rattle.std.proofs.Common.{refl, sym, ◌∙◌, ap, subst, inl, inr, arith, length-append, append-nil}
use Rattle.std.proofs.lemmas.Bool.Decides.{nat_tests}
use Rattle.std.proofs.Math.Nat.{mod-lt}
use Rattle.std.proofs.lemmas.List.{length-map, take-map, map-append, append_assoc}
use Rattle.std.proofs.lemmas.List.FromFn.{length-range_with_len}
use Rattle.std.proofs.lemmas.List.Sorted.{IsPermutation-refl, IsPermutation-sym, IsPermutation-trans}
use Rattle.std.proofs.lemmas.List.Sorted.{IsPermutation-cons, IsPermutation-middle, IsPermutation-append}
use Rattle.std.proofs.lemmas.List.Sorted.{IsPermutation-append_right, IsPermutation-filter_both}
use Rattle.point_order.specs.Sets.{IsIn, is_among}
use Rattle.edit_history.specs.declared.history.Edit.{Edit}
use Rattle.edit_history.specs.declared.history.Edit.TheVariants.{Add, Take, Move}
use Rattle.edit_history.specs.declared.history.Entry.{Entry}
use Rattle.edit_history.specs.Edits.{is_move, point_of, share_point, reply_to, after}
use Rattle.edit_history.specs.Histories.{entries_from, IsLegalFrom, IsLegal}
use Rattle.edit_history.specs.Opening.{opening_four, FourPlaces}
use Rattle.edit_history.specs.OneThread.{places, tagged_lines, lines_of_one_thread, one_thread, line_of, Keeps}
use Rattle.edit_history.specs.Laws.{AreIndependent}
use Rattle.edit_history.proofs.Cited.{entry_lines, four_law, keeps_law, line_at, picked}
use Rattle.list_laws.proofs.Cited.{EachLater, IsLower, all_of_each, all_pass, each_of_all, from_append, in_permutation}
use Rattle.list_laws.proofs.Cited.{later_across, later_append, later_filter, later_left, later_map, later_pairs}
use Rattle.list_laws.proofs.Cited.{later_right, later_unmap, mapped_true, none_pass, numbered_lower, pairs_later}
use Rattle.list_laws.proofs.Cited.{same_filter, same_true}
use Rattle.point_order.specs.Coordinates.{x_of, y_of, z_of}
use Rattle.point_order.specs.Orientation.{x_from, y_from, z_from, minor, triple, orientation, normal_x, normal_y}
use Rattle.point_order.specs.Orientation.{normal_z}
use Rattle.plain_laws.specs.Plain.{IsAnchored, all_edits}
use Rattle.plain_laws.specs.Laws.{SomeFileIsAnchored}
use Rattle.plain_laws.specs.Running.{Pair, segments, dealt_to, dealt_out, dealt, opening_entries, IsRun, AreRuns}
use Rattle.plain_laws.specs.Running.{RunKeeps, RunAlone}
use Rattle.plain_laws.proofs.Segments.{segments_keep}

-- ---- entries of lines

-- the entries that one thread makes are by 0
pub entry_by : (n : ℕ) (s : List ℕ) (lines : List Pair) (e : Entry) → IsIn e (entries_from n s lines) → e.by ≡ 0
entry_by n s [] e i = absurd i
entry_by n s (line ∷ lines) e (inl q) = sym (ap (λ (e : Entry). e.by) q)
entry_by n s (line ∷ lines) e (inr i) = entry_by (n + 1) (after s line.1) lines e i

-- legal entries by 0 are those that one thread makes of their lines
pub legal_is : (n : ℕ) (s : List ℕ) (h : List Entry) → IsLegalFrom n s h → ((e : Entry) → IsIn e h → e.by ≡ 0) →
    h ≡ entries_from n s (map line_of h)
legal_is n s [] l b = refl
legal_is n s (e ∷ h) l b =
    let number = l.0 in
    let reply = l.1 in
    let by_is = b e (inl refl) in
    let first : e ≡ record { number = n; by = 0; tag = e.tag; edit = e.edit; reply = reply_to s e.edit } =
    λ i. record { number = number i; by = by_is i; tag = e.tag; edit = e.edit; reply = reply i } in
    ap (λ (x : Entry). x ∷ h) first ∙ ap (λ (t : List Entry). record {
      number = n;
      by = 0;
      tag = e.tag;
      edit = e.edit;
      reply = reply_to s e.edit;
    } ∷ t) (legal_is (n + 1) (after s e.edit) h l.2 (λ d i. b d (inr i)))

-- the tags of entries are those of their lines
pub tags_of : (h : List Entry) → map (λ (e : Entry). e.tag) h ≡ map (λ (l : Pair). l.0) (map line_of h)
tags_of [] = refl
tags_of (e ∷ h) = ap (λ (t : List ℕ). e.tag ∷ t) (tags_of h)

-- ---- parts of a list by tests

-- what passes one of two tests that exclude each other
parted : {X : Type 0} (p q r : X → Bool) → ((x : X) → r x ≡ (p x || q x)) → ((x : X) → (p x && q x) ≡ false) →
    (l : List X) → IsPermutation (filter r l) (filter p l ++ filter q l)
parted p q r f g [] = IsPermutation-refl []
parted {X} p q r f g (x ∷ l) = by (p x) (q x) (r x) (f x) (g x) (parted p q r f g l)
  where
    by : (a b c : Bool) → c ≡ (a || b) → (a && b) ≡ false → IsPermutation (filter r l) (filter p l ++ filter q l) →
        IsPermutation (cond c (x ∷ filter r l) (filter r l)) (cond a (x ∷ filter p l) (filter p l)
        ++ cond b (x ∷ filter q l) (filter q l))
    by true true c e d h = cc
    by true false c e d h = rw e (IsPermutation-cons x (filter r l) (filter p l ++ filter q l) h)
    by false true c e d h =
        rw e (IsPermutation-trans (x ∷ filter r l) (x ∷ (filter p l ++ filter q l)) (filter p l ++ x ∷ filter q l)
        (IsPermutation-cons x (filter r l) (filter p l ++ filter q l) h)
        (IsPermutation-sym (filter p l ++ x ∷ filter q l) (x ∷ (filter p l ++ filter q l))
        (IsPermutation-middle (filter p l) x (filter q l))))
    by false false c e d h = rw e h

-- the one worker of one has all that pass
whole : (b : Bool) (m : ℕ) → (b && (m % 1 == 0)) ≡ b
whole true m = same_true (m % 1) 0 (let l : m % 1 < 1 = mod-lt m (omega arith) in omega (arith, l))
whole false m = refl

-- elements that pass a test, by a number that each has
module _ {X : Type 0} (t : X → Bool) (k : X → ℕ) (l : List X) where
  -- the elements that pass and have the number i
  abbrev part : ℕ → List X
  part i = filter (λ x. t x && (k x == i)) l

  -- those that pass and have a number of i or more
  abbrev from : ℕ → List X
  from i = filter (λ x. t x && not (nat_lt (k x) i)) l

  -- what has a number of i or more has i, or more than i
  from_next : (i : ℕ) → IsPermutation (from i) (part i ++ from (i + 1))
  from_next i =
      parted (λ x. t x && (k x == i)) (λ x. t x && not (nat_lt (k x) (i + 1))) (λ x. t x && not (nat_lt (k x) i))
      (λ x. either (t x) (k x)) (λ x. apart (t x) (k x)) l
    where
      tests : (m : ℕ) → not (nat_lt m i) ≡ ((m == i) || not (nat_lt m (i + 1)))
      tests m = grind (arith, nat_tests)

      both : (m : ℕ) → ((m == i) && not (nat_lt m (i + 1))) ≡ false
      both m = grind (arith, nat_tests)

      either : (b : Bool) (m : ℕ) → (b && not (nat_lt m i)) ≡ ((b && (m == i)) || (b && not (nat_lt m (i + 1))))
      either true m = tests m
      either false m = refl

      apart : (b : Bool) (m : ℕ) → ((b && (m == i)) && (b && not (nat_lt m (i + 1)))) ≡ false
      apart true m = both m
      apart false m = refl

  -- from i on, in the n parts with the numbers from i and in what is left from i + n
  pub from_parts : (i n : ℕ) → IsPermutation (from i) (flat_map (λ x. x) (map part (range_with_len i n))
      ++ from (i + n))
  from_parts i zero =
      let e : i ≡ i + 0 =
      omega arith in subst (λ (m : ℕ). IsPermutation (from i) (from m)) e (IsPermutation-refl (from i))
  from_parts i (suc n) =
      let e : i + 1 + n ≡ i + suc n = omega arith in
      let rest = subst (λ (m : ℕ). IsPermutation (from (i + 1))
      (flat_map (λ x. x) (map part (range_with_len (i + 1) n)) ++ from m)) e (from_parts (i + 1) n) in
      let step = IsPermutation-append_right (part i) (from (i + 1))
      (flat_map (λ x. x) (map part (range_with_len (i + 1) n)) ++ from (i + suc n)) rest in
      subst (IsPermutation (from i)) (sym (append_assoc (part i)
      (flat_map (λ x. x) (map part (range_with_len (i + 1) n))) (from (i + suc n))))
      (IsPermutation-trans (from i) (part i ++ from (i + 1)) (part i
      ++ (flat_map (λ x. x) (map part (range_with_len (i + 1) n)) ++ from (i + suc n))) (from_next i) step)

  -- where all numbers are below n
  pub all_parts : (n : ℕ) → ((x : X) → k x < n) → IsPermutation (filter t l)
      (flat_map (λ x. x) (map part (range_with_len 0 n)))
  all_parts n f =
      let e : from 0 ≡ filter t l = same_filter (λ x. t x && not (nat_lt (k x) 0)) t l (λ x m. first (t x) (k x)) in
      let g : from (0 + n) ≡ [] = none_pass (λ x. t x && not (nat_lt (k x) (0 + n))) l (λ x. last (t x) (k x) (f x)) in
      subst (λ (m : List X). IsPermutation m (flat_map (λ x. x) (map part (range_with_len 0 n)))) e
      (subst (IsPermutation (from 0)) (ap (λ (m : List X). flat_map (λ x. x) (map part (range_with_len 0 n)) ++ m) g
      ∙ append-nil (flat_map (λ x. x) (map part (range_with_len 0 n)))) (from_parts 0 n))
    where
      none : (m : ℕ) → not (nat_lt m 0) ≡ true
      none m = grind (arith, nat_tests)

      first : (b : Bool) (m : ℕ) → (b && not (nat_lt m 0)) ≡ b
      first true m = none m
      first false m = refl

      past : (m : ℕ) → m < n → not (nat_lt m (0 + n)) ≡ false
      past m h = grind (arith, nat_tests)

      last : (b : Bool) (m : ℕ) → m < n → (b && not (nat_lt m (0 + n))) ≡ false
      last true m h = past m h
      last false m h = refl

-- the lists of the workers have all lines
pub dealt_all : (n : ℕ) (lines : List Pair) → 0 < n → IsPermutation lines (flat_map (λ l. l) (dealt_out n lines))
dealt_all n lines some =
    subst (λ (l : List Pair). IsPermutation l (flat_map (λ l. l) (dealt_out n lines)))
    (all_pass (λ line. true) lines (λ line. refl))
    (all_parts (λ (line : Pair). true) (λ (line : Pair). point_of line.1 % n) lines n
    (λ line. mod-lt (point_of line.1) some))

-- ---- a file

-- of two lines that share a point the first has the lower place
abbrev pub InOrder : Pair → Pair → Type 0
InOrder x y = share_point x.1 y.1 ≡ true → x.0 < y.0

-- ---- runs of segments

-- what the runs of some segments have: their lines, by workers below n, those that share a point by their tags
pub record AreKept (lines : List Pair) (n : ℕ) (h : List Entry) : Type 0 where
  pub lines_are : IsPermutation lines (map line_of h)
  pub order : EachLater (λ (d e : Entry). InOrder (line_of d) (line_of e)) h
  pub workers : (e : Entry) → IsIn e h → e.by < n

-- of one segment
one_kept : (n : ℕ) (lines : List Pair) (h : List Entry) → 0 < n → IsRun (dealt_out n lines) h → AreKept lines n h
one_kept n lines h some r = record {
  lines_are = IsPermutation-trans lines (flat_map (λ l. l) (dealt_out n lines)) (map line_of h)
      (dealt_all n lines some) r.lines;
  order = pairs_later (λ (d e : Entry). InOrder (line_of d) (line_of e)) h r.order;
  workers = λ e i.
      let l = each_of_all (λ (d : Entry). d.by < length (dealt_out n lines)) h r.workers e i in
      omega (arith, l, length-map (range_with_len 0 n) (dealt_to n lines), length-range_with_len 0 n);
}

-- of all of them, where the places of the lines rise
pub all_kept : (n : ℕ) (parts : List (List Pair)) (h : List Entry) → 0 < n →
    EachLater IsLower (flat_map (λ l. l) parts) →
    AreRuns (map (dealt_out n) parts) h → AreKept (flat_map (λ l. l) parts) n h
all_kept n [] h some low r =
    subst (AreKept [] n) (sym r)
    (record { lines_are = IsPermutation-refl []; order = tt; workers = λ e i. absurd i })
all_kept n (part ∷ parts) h some low r =
    let rest : List Pair = flat_map (λ l. l) parts in
    let a = one_kept n part r.0 some r.3 in
    let b = all_kept n parts r.1 some (later_right IsLower part rest low) r.4 in
    let inside : (d : Entry) → IsIn d r.0 → IsIn (line_of d) part = λ d i.
    in_permutation (map line_of r.0) part (line_of d) (IsPermutation-sym part (map line_of r.0) a.lines_are)
    (mapped_true line_of d r.0 i) in
    let behind : (e : Entry) → IsIn e r.1 → IsIn (line_of e) rest = λ e i.
    in_permutation (map line_of r.1) rest (line_of e) (IsPermutation-sym rest (map line_of r.1) b.lines_are)
    (mapped_true line_of e r.1 i) in
    subst (AreKept (part ++ rest) n) (sym r.2) (record {
      lines_are = subst (IsPermutation (part ++ rest)) (sym (map-append line_of r.0 r.1))
          (IsPermutation-append part (map line_of r.0) rest (map line_of r.1) a.lines_are b.lines_are);
      order = later_append (λ (d e : Entry). InOrder (line_of d) (line_of e)) r.0 r.1 a.order b.order
          (λ d e i j s. later_across IsLower part rest low (line_of d) (line_of e) (inside d i) (behind e j));
      workers = λ e i. elim (from_append e r.0 r.1 i) [ inl j ↦ a.workers e j | inr j ↦ b.workers e j ];
    })

-- with one worker the entries are those of the lines in their order
pub alone_lines : (parts : List (List Pair)) (h : List Entry) → AreRuns (map (dealt_out 1) parts) h →
    map line_of h ≡ flat_map (λ l. l) parts
alone_lines [] h r = ap (map line_of) r
alone_lines (part ∷ parts) h r =
    let e : dealt_to 1 part 0 ≡ part =
    all_pass (λ (line : Pair). point_of line.1 % 1 == 0) part (λ line. whole true (point_of line.1)) in
    ap (map line_of) r.2 ∙ map-append line_of r.0 r.1
    ∙ (λ i. (r.3.alone (dealt_to 1 part 0) refl ∙ e) i ++ alone_lines parts r.1 r.4 i)

module _ (points : List ℕ) (edits : List Edit) (four : FourPlaces) (found : opening_four points ≡ Some four) where
  -- the numbered lines of the file
  abbrev pub all : List Pair
  all = tagged_lines points edits

  -- the line is one of the opening four
  abbrev pub opens : Pair → Bool
  opens line = is_among line.0 (places four)

  -- the lines of the four
  abbrev pub opening_lines : List Pair
  opening_lines = filter opens all

  -- all other lines
  abbrev pub others : List Pair
  others = filter (λ line. not (opens line)) all

  -- the entries that one thread makes of the four
  abbrev opening : List Entry
  opening = opening_entries (places four) all

  -- the four are independent, each at its first place
  independent : AreIndependent points four
  independent = subst (λ (o : Option FourPlaces). IfSome o (AreIndependent points)) found (four_law points)

  -- their places are those of lines
  in_range : (p : ℕ) → IsIn p (places four) → (0 ≤ p) × (p < 0 + length (all_edits points edits))
  in_range p i = (omega arith, omega (arith, below p i, length-append (map Add points) edits, length-map points Add))
    where
      below : (p : ℕ) → IsIn p (places four) → p < length points
      below p (inl e) =
          omega (
            arith,
            independent.ascending.0,
            independent.ascending.1,
            independent.ascending.2,
            independent.within,
            e,
          )
      below p (inr (inl e)) = omega (arith, independent.ascending.1, independent.ascending.2, independent.within, e)
      below p (inr (inr (inl e))) = omega (arith, independent.ascending.2, independent.within, e)
      below p (inr (inr (inr (inl e)))) = omega (arith, independent.within, e)
      below p (inr (inr (inr (inr j)))) = absurd j

  -- the lines of the four are those at their places, in order
  pub opening_is : opening_lines ≡ map (line_at 0 (all_edits points edits) (Add 0)) (places four)
  opening_is =
      picked (places four) 0 (all_edits points edits) (Add 0) (
        independent.ascending.0,
        (independent.ascending.1, (independent.ascending.2, (tt, tt))),
      ) in_range

  -- the history of one thread has the same lines
  one_order : EachLater InOrder (opening_lines ++ others)
  one_order =
      let kept : Keeps points edits 1 (entries_from 0 [] (opening_lines ++ others)) =
      subst (λ (o : Option FourPlaces). IfSome o (λ _. Keeps points edits 1
      (entries_from 0 [] (lines_of_one_thread o all)))) found (keeps_law points edits) in
      subst (EachLater InOrder) (entry_lines 0 [] (opening_lines ++ others))
      (later_map line_of InOrder (entries_from 0 [] (opening_lines ++ others))
      (pairs_later (λ (d e : Entry). InOrder (line_of d) (line_of e)) (entries_from 0 [] (opening_lines ++ others))
      kept.order))

  -- the places of the others rise, and they are the lines of the segments
  rises : EachLater IsLower (flat_map (λ l. l) (segments others))
  rises =
      subst (EachLater IsLower) (sym (segments_keep others))
      (later_filter IsLower (λ line. not (opens line)) all (numbered_lower 0 (all_edits points edits)))

  module _ (workers : ℕ) (some : 0 < workers) (run : List Entry)
      (is_run : AreRuns (dealt workers (places four) all) run) where
    -- a run of the others has each of them once, by the workers, those that share a point by their tags
    kept : AreKept others workers run
    kept =
        subst (λ (l : List Pair). AreKept l workers run) (segments_keep others)
        (all_kept workers (segments others) run some rises is_run)

    -- the lines of the opening and the run are those of the four, and then those of the run
    lines_are : map line_of (opening ++ run) ≡ opening_lines ++ map line_of run
    lines_are =
        map-append line_of opening run ∙ ap (λ (l : List Pair). l ++ map line_of run) (entry_lines 0 [] opening_lines)

    -- together they are each line of the file once
    lines : IsPermutation all (map line_of (opening ++ run))
    lines =
        subst (IsPermutation all) (sym lines_are)
        (IsPermutation-trans all (opening_lines ++ others) (opening_lines ++ map line_of run)
        (IsPermutation-filter_both opens (λ line. not (opens line)) (λ x. refl) all)
        (IsPermutation-append_right opening_lines others (map line_of run) kept.lines_are))

    -- the first four entries have the places of the four for their tags
    first_four : map (λ (e : Entry). e.tag) (take 4 (opening ++ run)) ≡ places four
    first_four =
        sym (take-map (λ (e : Entry). e.tag) 4 (opening ++ run))
        ∙ ap (take 4) (tags_of (opening ++ run) ∙ ap (map (λ (l : Pair). l.0)) lines_are)
        ∙ ap (λ (l : List Pair). take 4 (map (λ (l : Pair). l.0) (l ++ map line_of run))) opening_is

    -- of two entries that share a point the earlier has the lower tag
    order : EachLater (λ (d e : Entry). InOrder (line_of d) (line_of e)) (opening ++ run)
    order =
        later_append (λ (d e : Entry). InOrder (line_of d) (line_of e)) opening run
        (later_unmap line_of InOrder opening (subst (EachLater InOrder) (sym (entry_lines 0 [] opening_lines))
        (later_left InOrder opening_lines others one_order)))
        kept.order
        (λ x y i j. later_across InOrder opening_lines others one_order (line_of x) (line_of y)
        (subst (IsIn (line_of x)) (entry_lines 0 [] opening_lines) (mapped_true line_of x opening i))
        (in_permutation (map line_of run) others (line_of y)
        (IsPermutation-sym others (map line_of run) kept.lines_are) (mapped_true line_of y run j)))

    -- each entry is by one of the workers
    pub made_by : (e : Entry) → IsIn e (opening ++ run) → e.by < workers
    made_by e i =
        elim (from_append e opening run i) [
          | inl j ↦ let z = entry_by 0 [] opening_lines e j in omega (arith, z, some)
          | inr j ↦ kept.workers e j
        ]

    -- so opening and run keep the file
    pub keeps : Keeps points edits workers (opening ++ run)
    keeps =
        record {
          opening = subst (λ (o : Option FourPlaces). IfSome o
              (λ f. map (λ (e : Entry). e.tag) (take 4 (opening ++ run))
              ≡ places f)) (sym found) first_four;
          lines = lines;
          order =
              later_pairs (λ (d e : Entry). share_point d.edit e.edit ≡ true → d.tag < e.tag) (opening ++ run) order;
          workers = all_of_each (λ (e : Entry). e.by < workers) (opening ++ run) made_by;
        }

  -- ---- one worker

  -- where they are legal they are the history of one thread
  pub alone : (run : List Entry) → AreRuns (dealt 1 (places four) all) run → IsLegal (opening ++ run) →
      opening ++ run ≡ one_thread points edits
  alone run is_run legal =
      let f : map line_of (opening ++ run) ≡ opening_lines ++ others =
      lines_are 1 (omega arith) run is_run ∙ ap (λ (l : List Pair). opening_lines ++ l)
      (alone_lines (segments others) run is_run ∙ segments_keep others) in
      legal_is 0 [] (opening ++ run) legal (λ d i. let l = made_by 1 (omega arith) run is_run d i in omega (arith, l))
      ∙ ap (entries_from 0 []) f
      ∙ ap (λ (o : Option FourPlaces). entries_from 0 [] (lines_of_one_thread o all)) (sym found)

-- ---- there is an anchored file

-- the points of a tetrahedron are the opening four of their list
four_found : opening_four (0 ∷ 2 * 268435456 ∷ 2 * 16384 ∷ 2 ∷ [])
    ≡ Some (record { first = 0; second = 1; third = 2; fourth = 3 })
unfolding orientation triple minor normal_x normal_y normal_z x_from y_from z_from x_of y_of z_of
four_found = refl

-- a file that is anchored: the points of a tetrahedron, and an add and a take of another point
an_anchored_file : IsAnchored (0 ∷ 2 * 268435456 ∷ 2 * 16384 ∷ 2 ∷ [])
    (Add (268435456 + 16384 + 1) ∷ Take (268435456 + 16384 + 1) ∷ [])
an_anchored_file = record {
  four = record { first = 0; second = 1; third = 2; fourth = 3 };
  opening = four_found;
  untaken = spared;
  unmoved = stays;
}
  where
    is_take : Edit → Bool
    is_take (Add p) = false
    is_take (Take p) = true
    is_take (Move a b) = false

    stays : (i b : ℕ) → IsIn i (0 ∷ 1 ∷ 2 ∷ 3 ∷ []) → ¬ (IsIn (Move
        (slice_index (0 ∷ 2 * 268435456 ∷ 2 * 16384 ∷ 2 ∷ []) i) b)
        (Add (268435456 + 16384 + 1) ∷ Take (268435456 + 16384 + 1) ∷ []))
    stays i b j (inl e) = let f = ap is_move e in cc
    stays i b j (inr (inl e)) = let f = ap is_move e in cc
    stays i b j (inr (inr k)) = k

    apart : (k : ℕ) → IsIn k (0 ∷ 2 * 268435456 ∷ 2 * 16384 ∷ 2 ∷ []) → 268435456 + 16384 + 1 ≡ k → ⊥
    apart k (inl e) f = omega (arith, e, f)
    apart k (inr (inl e)) f = omega (arith, e, f)
    apart k (inr (inr (inl e))) f = omega (arith, e, f)
    apart k (inr (inr (inr (inl e)))) f = omega (arith, e, f)
    apart k (inr (inr (inr (inr j)))) f = j

    at_place : (i : ℕ) → IsIn i (0 ∷ 1 ∷ 2 ∷ 3 ∷ []) → IsIn (slice_index (0 ∷ 2 * 268435456 ∷ 2 * 16384 ∷ 2 ∷ []) i)
        (0 ∷ 2 * 268435456 ∷ 2 * 16384 ∷ 2 ∷ [])
    at_place i j = mapped_true (slice_index (0 ∷ 2 * 268435456 ∷ 2 * 16384 ∷ 2 ∷ [])) i (0 ∷ 1 ∷ 2 ∷ 3 ∷ []) j

    spared : (i : ℕ) → IsIn i (0 ∷ 1 ∷ 2 ∷ 3 ∷ []) → ¬ (IsIn (Take
        (slice_index (0 ∷ 2 * 268435456 ∷ 2 * 16384 ∷ 2 ∷ []) i))
        (Add (268435456 + 16384 + 1) ∷ Take (268435456 + 16384 + 1) ∷ []))
    spared i j (inl e) = let f = ap is_take e in cc
    spared i j (inr (inl e)) =
        apart (slice_index (0 ∷ 2 * 268435456 ∷ 2 * 16384 ∷ 2 ∷ []) i) (at_place i j) (ap point_of e)
    spared i j (inr (inr k)) = k

-- so there is an anchored file
pub some_file_is_anchored : SomeFileIsAnchored
some_file_is_anchored = (
  0 ∷ 2 * 268435456 ∷ 2 * 16384 ∷ 2 ∷ [],
  Add (268435456 + 16384 + 1) ∷ Take (268435456 + 16384 + 1) ∷ [],
  an_anchored_file,
)

-- the opening four and runs of the dealt lines keep the file
pub run_keeps : RunKeeps
run_keeps points edits workers four run found some is_run = keeps points edits four found workers some run is_run

-- with one worker they are the history of one thread, where they are legal
pub run_alone : RunAlone
run_alone points edits four run found is_run legal = alone points edits four found run is_run legal
