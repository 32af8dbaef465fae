-- Lines that are cut into segments.
use Rattle.std.specs.Prelude.{◌≡◌, ℕ, ◌%◌, ◌<◌, ◌==◌, ◌&&◌, ◌||◌, Bool, true, false, cond, List, [], ◌∷◌, ◌++◌}
use Rattle.std.specs.Prelude.{IsPermutation}
use Rattle.std.specs.List.{flat_map, list_any, range_with_len}
use Rattle.std.proofs.Common.{refl, sym, ◌∙◌, ap, subst, inl, inr, arith}
use Rattle.std.proofs.lemmas.Bool.{false≢true}
use Rattle.std.proofs.lemmas.List.{append_assoc}
use Rattle.std.proofs.lemmas.Map.Keys.{IsDistinct-from_apart, IsDistinct-IsPermutation, apart_from_distinct}
use Rattle.list_laws.proofs.Cited.{EachLater, among_from, among_true, any_from, any_true, below_each, each_of_all}
use Rattle.list_laws.proofs.Cited.{false_if, from_append, in_filtered, later_map, later_pairs, later_weaken, passes}
use Rattle.list_laws.proofs.Cited.{range_ascending, related, same_from, same_test}
use Rattle.point_order.specs.Sets.{IsIn, IsAscending, is_among}
use Rattle.edit_history.specs.declared.history.Edit.{Edit}
use Rattle.edit_history.specs.declared.history.Edit.TheVariants.{Add, Take, Move}
use Rattle.edit_history.specs.Edits.{edit_points, is_move, point_of, share_point}
use Rattle.edit_history.proofs.Cited.{share_adds}
use Rattle.plain_laws.specs.Running.{Pair, HaveNoPoint, MovesAlone, OneSegment, SegmentsApart, SegmentsKeepLines, clash}
use Rattle.plain_laws.specs.Running.{cut, dealt_out, dealt_to, segments}

-- ---- all lines are there

-- a cut has the lines of the present segment, and then the others
cut_lines : (present lines : List Pair) → flat_map (λ l. l) (cut present lines) ≡ present ++ lines
cut_lines present [] = refl
cut_lines present (line ∷ lines) = by (list_any (λ earlier. clash earlier line) present) (λ l. cut_lines l lines)
  where
    by : (b : Bool) → ((l : List Pair) → flat_map (λ l. l) (cut l lines) ≡ l ++ lines) →
        flat_map (λ l. l) (cond b (present ∷ cut (line ∷ []) lines) (cut (present ++ line ∷ []) lines)) ≡
        present ++ line ∷ lines
    by true r = ap (λ (l : List Pair). present ++ l) (r (line ∷ []))
    by false r = r (present ++ line ∷ []) ∙ append_assoc present (line ∷ []) lines

-- so the segments of lines have all lines, in their order
pub segments_keep : SegmentsKeepLines
segments_keep lines = cut_lines [] lines

-- ---- one line more

-- some segments with one line more
abbrev pub with_line : List (List Pair) → Pair → List (List Pair)
with_line [] line = []
with_line (l ∷ []) line =
    cond (list_any (λ earlier. clash earlier line) l) (l ∷ (line ∷ []) ∷ []) ((l ++ line ∷ []) ∷ [])
with_line (l ∷ m ∷ others) line = l ∷ with_line (m ∷ others) line

-- a cut is never empty
some_cut : (present lines : List Pair) →
    (l : List Pair) × (others : List (List Pair)) × (cut present lines ≡ l ∷ others)
some_cut present [] = (present, [], refl)
some_cut present (line ∷ lines) =
    by (list_any (λ earlier. clash earlier line) present) (some_cut (present ++ line ∷ []) lines)
  where
    by : (b : Bool) → ((l : List Pair) × (others : List (List Pair)) × (cut (present ++ line ∷ []) lines ≡ l ∷ others))
        → (l : List Pair) × (others : List (List Pair)) ×
        (cond b (present ∷ cut (line ∷ []) lines) (cut (present ++ line ∷ []) lines) ≡ l ∷ others)
    by true r = (present, cut (line ∷ []) lines, refl)
    by false r = r

-- the first of two or more stays
first_stays : (l : List Pair) (lines present : List Pair) (line : Pair) →
    with_line (l ∷ cut present lines) line ≡ l ∷ with_line (cut present lines) line
first_stays l lines present line =
    let s = some_cut present lines in
    ap (λ (t : List (List Pair)). with_line (l ∷ t) line) s.2
    ∙ sym (ap (λ (t : List (List Pair)). l ∷ with_line t line) s.2)

-- a cut of lines with one more is the cut of the lines, with that line
cut_more : (present lines : List Pair) (line : Pair) →
    cut present (lines ++ line ∷ []) ≡ with_line (cut present lines) line
cut_more present [] line = refl
cut_more present (x ∷ lines) line =
    by (list_any (λ earlier. clash earlier x) present) (cut_more (x ∷ []) lines line)
    (cut_more (present ++ x ∷ []) lines line)
  where
    by : (b : Bool) → cut (x ∷ []) (lines ++ line ∷ []) ≡ with_line (cut (x ∷ []) lines) line →
        cut (present ++ x ∷ []) (lines ++ line ∷ []) ≡ with_line (cut (present ++ x ∷ []) lines) line →
        cond b (present ∷ cut (x ∷ []) (lines ++ line ∷ [])) (cut (present ++ x ∷ []) (lines ++ line ∷ [])) ≡
        with_line (cond b (present ∷ cut (x ∷ []) lines) (cut (present ++ x ∷ []) lines)) line
    by true r s = ap (λ (t : List (List Pair)). present ∷ t) r ∙ sym (first_stays present lines (x ∷ []) line)
    by false r s = s

-- of some segments, the last of which is the present one
last_with_line : (front : List (List Pair)) (present : List Pair) (line : Pair) →
    with_line (front ++ present ∷ []) line ≡ front ++ with_line (present ∷ []) line
last_with_line [] present line = refl
last_with_line (l ∷ []) present line = refl
last_with_line (l ∷ m ∷ front) present line =
    ap (λ (t : List (List Pair)). l ∷ t) (last_with_line (m ∷ front) present line)

-- a line that clashes with one of the present segment begins a new one
pub segments_begin : (lines : List Pair) (front : List (List Pair)) (present : List Pair) (line : Pair) →
    segments lines ≡ front ++ present ∷ [] → list_any (λ earlier. clash earlier line) present ≡ true →
    segments (lines ++ line ∷ []) ≡ (front ++ present ∷ []) ++ (line ∷ []) ∷ []
segments_begin lines front present line e h =
    cut_more [] lines line ∙ ap (λ (t : List (List Pair)). with_line t line) e ∙ last_with_line front present line
    ∙ ap (λ (b : Bool). front ++ cond b (present ∷ (line ∷ []) ∷ []) ((present ++ line ∷ []) ∷ [])) h
    ∙ sym (append_assoc front (present ∷ []) ((line ∷ []) ∷ []))

-- any other one goes to its end
pub segments_go_on : (lines : List Pair) (front : List (List Pair)) (present : List Pair) (line : Pair) →
    segments lines ≡ front ++ present ∷ [] → list_any (λ earlier. clash earlier line) present ≡ false →
    segments (lines ++ line ∷ []) ≡ front ++ (present ++ line ∷ []) ∷ []
segments_go_on lines front present line e h =
    cut_more [] lines line ∙ ap (λ (t : List (List Pair)). with_line t line) e ∙ last_with_line front present line
    ∙ ap (λ (b : Bool). front ++ cond b (present ∷ (line ∷ []) ∷ []) ((present ++ line ∷ []) ∷ [])) h

-- ---- lines that move nothing

-- they do not clash
still_calm : (x y : Pair) → is_move x.1 ≡ false → is_move y.1 ≡ false → clash x y ≡ false
still_calm x y m n = by (share_point x.1 y.1) (is_move x.1) (is_move y.1) m n
  where
    by : (s a b : Bool) → a ≡ false → b ≡ false → (s && (a || b)) ≡ false
    by false a b m n = refl
    by true false false m n = refl
    by true true b m n = absurd (false≢true (sym m))
    by true false true m n = absurd (false≢true (sym n))

-- where neither the present lines nor the others move a point, all are one segment
cut_still : (present lines : List Pair) → ((x : Pair) → IsIn x present → is_move x.1 ≡ false) →
    ((x : Pair) → IsIn x lines → is_move x.1 ≡ false) → cut present lines ≡ (present ++ lines) ∷ []
cut_still present [] f g = ap (λ (l : List Pair). l ∷ []) (none present)
  where
    none : (l : List Pair) → l ≡ l ++ []
    none [] = refl
    none (x ∷ l) = ap (λ (m : List Pair). x ∷ m) (none l)
cut_still present (line ∷ lines) f g =
    by (list_any (λ earlier. clash earlier line) present) none
    (cut_still (present ++ line ∷ []) lines both (λ x i. g x (inr i)))
  where
    none : list_any (λ earlier. clash earlier line) present ≡ false
    none = false_if (list_any (λ earlier. clash earlier line) present) (λ t.
        let r = any_from (λ earlier. clash earlier line) present t in
        false≢true (sym (still_calm r.0 line (f r.0 r.1) (g line (inl refl))) ∙ r.2))

    both : (x : Pair) → IsIn x (present ++ line ∷ []) → is_move x.1 ≡ false
    both x i = elim (from_append x present (line ∷ []) i) [
      | inl j ↦ f x j
      | inr j ↦ elim j [ inl q ↦ g x (inl q) | inr k ↦ absurd k ]
    ]

    by : (b : Bool) → b ≡ false → cut (present ++ line ∷ []) lines ≡ ((present ++ line ∷ []) ++ lines) ∷ [] →
        cond b (present ∷ cut (line ∷ []) lines) (cut (present ++ line ∷ []) lines) ≡ (present ++ line ∷ lines) ∷ []
    by true e r = absurd (false≢true (sym e))
    by false e r = r ∙ ap (λ (l : List Pair). l ∷ []) (append_assoc present (line ∷ []) lines)

-- lines that move no point are one segment
pub one_segment : OneSegment
one_segment lines still =
    cut_still [] lines (λ x i. absurd i) (each_of_all (λ (x : Pair). is_move x.1 ≡ false) lines still)

-- ---- what a segment has

-- no two lines clash
abbrev Calm : Pair → Pair → Type 0
Calm x y = clash x y ≡ false

-- one line more, with which none clashes
calm_more : (present : List Pair) (line : Pair) → EachLater Calm present →
    list_any (λ earlier. clash earlier line) present ≡ false → EachLater Calm (present ++ line ∷ [])
calm_more [] line h e = (λ y i. absurd i, tt)
calm_more (x ∷ present) line h e = by (clash x line) refl (λ f. calm_more present line h.1 f) e
  where
    by : (b : Bool) → clash x line ≡ b →
        (list_any (λ earlier. clash earlier line) present ≡ false → EachLater Calm (present ++ line ∷ [])) →
        (b || list_any (λ earlier. clash earlier line) present) ≡ false → EachLater Calm (x ∷ present ++ line ∷ [])
    by true f r e = absurd cc
    by false f r e = (
      λ y i. elim (from_append y present (line ∷ []) i) [
        | inl j ↦ h.0 y j
        | inr j ↦ elim j [ inl q ↦ subst (λ (z : Pair). clash x z ≡ false) q f | inr k ↦ absurd k ]
      ],
      r e,
    )

-- so it is in each segment of a cut
cut_calm : (present lines : List Pair) → EachLater Calm present → (segment : List Pair) →
    IsIn segment (cut present lines) → EachLater Calm segment
cut_calm present [] h segment (inl e) = subst (EachLater Calm) e h
cut_calm present [] h segment (inr i) = absurd i
cut_calm present (line ∷ lines) h segment i =
    by (list_any (λ earlier. clash earlier line) present) refl (λ l k j. cut_calm l lines k segment j) i
  where
    by : (b : Bool) → list_any (λ earlier. clash earlier line) present ≡ b →
        ((l : List Pair) → EachLater Calm l → IsIn segment (cut l lines) → EachLater Calm segment) →
        IsIn segment (cond b (present ∷ cut (line ∷ []) lines) (cut (present ++ line ∷ []) lines)) →
        EachLater Calm segment
    by true e r (inl q) = subst (EachLater Calm) q h
    by true e r (inr j) = r (line ∷ []) (λ y i. absurd i, tt) j
    by false e r j = r (present ++ line ∷ []) (calm_more present line h e) j

-- sharing a point does not depend on the order
shares_back : (d e : Edit) → share_point d e ≡ true → share_point e d ≡ true
shares_back d e h =
    let p = any_from (λ q. is_among q (edit_points e)) (edit_points d) h in
    any_true (λ q. is_among q (edit_points d)) (edit_points e) p.0 (among_from p.0 (edit_points e) p.2)
    (among_true p.0 (edit_points d) p.1)

-- whether two edits share a point does not depend on which is first
pub share_flips : (d e : Edit) → share_point d e ≡ share_point e d
share_flips d e = same_test (share_point d e) (share_point e d) (shares_back d e) (shares_back e d)

-- nor does whether two lines clash
pub clash_flips : (x y : Pair) → clash x y ≡ clash y x
clash_flips x y = by (share_point x.1 y.1) (share_point y.1 x.1) (is_move x.1) (is_move y.1) (share_flips x.1 y.1)
  where
    by : (a b m n : Bool) → a ≡ b → (a && (m || n)) ≡ (b && (n || m))
    by true true true true e = refl
    by true true true false e = refl
    by true true false n e = by_or n
      where
        by_or : (n : Bool) → n ≡ (n || false)
        by_or true = refl
        by_or false = refl
    by false false m n e = refl
    by true false m n e = absurd (false≢true (sym e))
    by false true m n e = absurd (false≢true e)

-- in whatever order the lines stand
pub alone_in_any_order : (lines others : List Pair) → IsPermutation lines others → MovesAlone lines → MovesAlone others
alone_in_any_order lines others same alone i j d l m =
    let differ = IsDistinct-IsPermutation clash clash_flips lines others same
    (IsDistinct-from_apart clash lines (λ i j d l m. alone i j d l m)) in
    apart_from_distinct clash others i j d differ l m

-- lines that share a point and do not clash move nothing, and are of one point
pub one_point : (x y : Pair) → share_point x.1 y.1 ≡ true → clash x y ≡ false → point_of x.1 ≡ point_of y.1
one_point x y h c =
    let still = neither (share_point x.1 y.1) (is_move x.1) (is_move y.1) h c in
    of_still x.1 y.1 h still.0 still.1
  where
    neither : (c m n : Bool) → c ≡ true → (c && (m || n)) ≡ false → (m ≡ false) × (n ≡ false)
    neither true false false e f = (refl, refl)
    neither true true n e f = absurd cc
    neither true false true e f = absurd cc
    neither false m n e f = absurd cc

    of_still : (d e : Edit) → share_point d e ≡ true → is_move d ≡ false → is_move e ≡ false → point_of d ≡ point_of e
    of_still (Add p) (Add q) h m n = sym (share_adds p q h)
    of_still (Add p) (Take q) h m n = sym (share_adds p q h)
    of_still (Take p) (Add q) h m n = sym (share_adds p q h)
    of_still (Take p) (Take q) h m n = sym (share_adds p q h)
    of_still (Move a b) e h m n = absurd cc
    of_still (Add p) (Move a b) h m n = absurd cc
    of_still (Take p) (Move a b) h m n = absurd cc

-- the lists of two workers have no point in common
workers_apart : (segment : List Pair) (n i j : ℕ) → EachLater Calm segment → i < j →
    HaveNoPoint (dealt_to n segment i) (dealt_to n segment j)
workers_apart segment n i j h l a b k m = false_if (share_point a.1 b.1) (λ e. other_worker (same_worker e))
  where
    other_worker : point_of a.1 % n ≡ point_of b.1 % n → ⊥
    other_worker e =
        let mine = same_from (point_of a.1 % n) i (passes (λ line. point_of line.1 % n == i) segment a k) in
        let other = same_from (point_of b.1 % n) j (passes (λ line. point_of line.1 % n == j) segment b m) in
        omega (arith, mine, other, e, l)

    calm : clash a b ≡ false
    calm = elim (related Calm segment a b h (in_filtered (λ line. point_of line.1 % n == i) segment a k)
        (in_filtered (λ line. point_of line.1 % n == j) segment b m)) [
          | inl q ↦ absurd (other_worker (ap (λ (x : Pair). point_of x.1 % n) q))
          | inr o ↦ elim o [ inl r ↦ r | inr r ↦ clash_flips a b ∙ r ]
        ]

    same_worker : share_point a.1 b.1 ≡ true → point_of a.1 % n ≡ point_of b.1 % n
    same_worker e = ap (λ p. p % n) (one_point a b e calm)

-- numbers in their order rise
range_later : (k n : ℕ) → EachLater (λ (i j : ℕ). i < j) (range_with_len k n)
range_later k n = ascending_later (range_with_len k n) (range_ascending k n)
  where
    ascending_later : (l : List ℕ) → IsAscending l → EachLater (λ (i j : ℕ). i < j) l
    ascending_later [] h = tt
    ascending_later (x ∷ l) h = (λ y i. below_each x l h.0 h.1 y i, ascending_later l h.1)

-- in a segment a line that moves is alone with its points, and no point stands in two workers' lists
pub segments_apart : SegmentsApart
segments_apart lines segment n i =
    let h = cut_calm [] lines tt segment i in (
      later_pairs Calm segment h,
      later_pairs HaveNoPoint (dealt_out n segment) (later_map (dealt_to n segment) HaveNoPoint (range_with_len 0 n)
          (later_weaken (λ (i j : ℕ). i < j) (λ i j. HaveNoPoint (dealt_to n segment i) (dealt_to n segment j))
          (range_with_len 0 n) (λ i j k m l. workers_apart segment n i j h l) (range_later 0 n))),
    )
