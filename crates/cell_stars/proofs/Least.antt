-- The least cell behind a bound, and the cells of a star in order.
use Rattle.std.specs.Prelude.{◌≡◌, ℕ, zero, suc, ◌<◌, Bool, true, false, List, [], ◌∷◌, length, map, Option, None, Some}
use Rattle.std.specs.Prelude.{MatchOption, slice_index_or}
use Rattle.std.specs.List.{filter}
use Rattle.std.specs.List.Sorted.{IsStrictlySortedBy}
use Rattle.std.specs.Ordering.{is_lt}
use Rattle.std.specs.declared.cmp.Ordering.{Ordering}
use Rattle.std.specs.declared.cmp.Ordering.TheVariants.{Less, Equal, Greater}
use Rattle.std.proofs.Common.{add-one, ◌+◌, refl, sym, ◌∙◌, ap, subst, inl, inr, arith, take}
use Rattle.std.proofs.lemmas.List.Kept.{IsStrictlySortedBy-filter}
use Rattle.list_laws.proofs.Cited.{among_from, among_true, filtered_from, filtered_true, in_more, is_less, last_one}
use Rattle.list_laws.proofs.Cited.{more_one}
use Rattle.point_order.proofs.Cited.{cell_after, cell_before, cell_same, cell_self}
use Rattle.point_order.specs.declared.cell.Cell.{Cell}
use Rattle.point_order.specs.CellOrder.{cell_cmp}
use Rattle.point_order.specs.Facets.{points_of}
use Rattle.point_order.specs.Sets.{IsIn, is_among}
use Rattle.del_laws.proofs.Cited.{same_members}
use Rattle.cell_stars.specs.Swaps.{with_all_cells}
use Rattle.cell_stars.specs.Places.{Placed, AreStars, IsStarred, live, named, cells_of, lies_in, is_after, IsOneBehind}
use Rattle.cell_stars.specs.Places.{HaveNone, IsLeastBehind, at_slot}
use Rattle.cell_stars.proofs.CellLaws.{in_withs, withs_new, withs_sorted}

-- ---- members

-- a cell at a place is one of those
pub live_at : (slots : List (Option Cell)) (i : ℕ) (c : Cell) → at_slot slots i ≡ Some c → IsIn c (live slots)
live_at [] i c e = absurd (cc e)
live_at (None ∷ l) zero c e = absurd (cc e)
live_at (Some d ∷ l) zero c e = inl (cc e)
live_at (None ∷ l) (suc i) c e = live_at l i c e
live_at (Some d ∷ l) (suc i) c e = inr (live_at l i c e)

-- and each of those stands at a place
pub at_live : (slots : List (Option Cell)) (c : Cell) → IsIn c (live slots) → (i : ℕ) × (at_slot slots i ≡ Some c)
at_live [] c m = absurd m
at_live (None ∷ l) c m = let r = at_live l c m in (suc r.0, r.1)
at_live (Some d ∷ l) c (inl e) = (0, ap Some e)
at_live (Some d ∷ l) c (inr m) = let r = at_live l c m in (suc r.0, r.1)

-- the cell at a place of the list
pub named_at : (slots : List (Option Cell)) (is : List ℕ) (i : ℕ) (c : Cell) → IsIn i is → at_slot slots i ≡ Some c →
    IsIn c (named slots is)
named_at slots [] i c m e = absurd m
named_at slots (j ∷ is) i c (inl q) e = rw (q, e) (inl refl)
named_at slots (j ∷ is) i c (inr m) e = by (at_slot slots j) (named_at slots is i c m e)
  where
    by : (o : Option Cell) → IsIn c (named slots is) → IsIn c (live (o ∷ map (at_slot slots) is))
    by None k = k
    by (Some d) k = inr k

-- and each of those stands at one of the places
pub at_named : (slots : List (Option Cell)) (is : List ℕ) (c : Cell) → IsIn c (named slots is) →
    (i : ℕ) × IsIn i is × (at_slot slots i ≡ Some c)
at_named slots [] c m = absurd m
at_named slots (j ∷ is) c m = by (at_slot slots j) refl m (λ k. at_named slots is c k)
  where
    by : (o : Option Cell) → at_slot slots j ≡ o → IsIn c (live (o ∷ map (at_slot slots) is)) →
        (IsIn c (named slots is) → (i : ℕ) × IsIn i is × (at_slot slots i ≡ Some c)) →
        (i : ℕ) × IsIn i (j ∷ is) × (at_slot slots i ≡ Some c)
    by None e k r = let t = r k in (t.0, inr t.1, t.2)
    by (Some d) e (inl q) r = (j, inl refl, e ∙ ap Some q)
    by (Some d) e (inr k) r = let t = r k in (t.0, inr t.1, t.2)

-- ---- the least

-- a cell of the star behind the bound is one of the list of these, in order
one_member : (slots : List (Option Cell)) (star : List ℕ) (bound : Option Cell) (c : Cell) →
    IsOneBehind slots star bound c → IsIn c (filter (is_after bound) (with_all_cells (named slots star) []))
one_member slots star bound c o = filtered_true (is_after bound) (with_all_cells (named slots star) []) c
    (withs_new (named slots star) [] c (named_at slots star o.place c o.listed o.there)) o.behind

-- and each of that list is
member_one : (slots : List (Option Cell)) (star : List ℕ) (bound : Option Cell) (c : Cell) →
    IsIn c (filter (is_after bound) (with_all_cells (named slots star) [])) → IsOneBehind slots star bound c
member_one slots star bound c m =
    let f = filtered_from (is_after bound) (with_all_cells (named slots star) []) c m in
    elim (in_withs (named slots star) [] c f.0) [
      | inl k ↦ (let t = at_named slots star c k in record { place = t.0; listed = t.1; there = t.2; behind = f.1 })
      | inr k ↦ absurd k
    ]

-- the cells behind a bound, in order
abbrev pub behind : List (Option Cell) → List ℕ → Option Cell → List Cell
behind slots star bound = filter (is_after bound) (with_all_cells (named slots star) [])

-- that list is in order, each once
behind_sorted : (slots : List (Option Cell)) (star : List ℕ) (bound : Option Cell) →
    IsStrictlySortedBy cell_cmp (behind slots star bound)
unfolding IsStrictlySortedBy
behind_sorted slots star bound = IsStrictlySortedBy-filter cell_cmp (is_after bound)
    (with_all_cells (named slots star) [])
    (withs_sorted (named slots star) [] tt)

-- a list of which nothing is a member is empty
no_members : (l : List Cell) → ((c : Cell) → IsIn c l → ⊥) → l ≡ []
no_members [] f = refl
no_members (c ∷ l) f = absurd (f c (inl refl))

-- none is left
pub none_left : (slots : List (Option Cell)) (star : List ℕ) (bound : Option Cell) → HaveNone slots star bound →
    behind slots star bound ≡ []
none_left slots star bound n = no_members (behind slots star bound) (λ c m. n c (member_one slots star bound c m))

-- what the test does not find less is not less
not_lt : (o : Ordering) → is_lt o ≡ false → o ≡ Less → ⊥
not_lt Less e f = absurd (cc e)
not_lt Equal e f = absurd (cc f)
not_lt Greater e f = absurd (cc f)

-- behind a cell that is behind the bound is behind the bound
after_more : (bound : Option Cell) (c d : Cell) → is_after bound c ≡ true → is_after (Some c) d ≡ true →
    is_after bound d ≡ true
after_more None c d e f = refl
after_more (Some b) c d e f = ap is_lt (cell_before b c d (is_less (cell_cmp b c) e) (is_less (cell_cmp c d) f))

-- the least one is the first, and the others are those behind it
pub least_first : (slots : List (Option Cell)) (star : List ℕ) (bound : Option Cell) (c : Cell) →
    IsLeastBehind slots star bound c → behind slots star bound ≡ c ∷ behind slots star (Some c)
unfolding IsStrictlySortedBy
least_first slots star bound c l =
    same_members (behind slots star bound) (c ∷ behind slots star (Some c)) (behind_sorted slots star bound) (
      heads (behind slots star (Some c)) (λ d m. is_less (cell_cmp c d)
          (filtered_from (is_after (Some c)) (with_all_cells (named slots star) []) d m).1),
      behind_sorted slots star (Some c),
    )
    there back
  where
    heads : (m : List Cell) → ((d : Cell) → IsIn d m → cell_cmp c d ≡ Less) →
        Rattle.std.specs.List.AllByRecursion (λ y. cell_cmp c y ≡ Less) m
    heads [] f = tt
    heads (d ∷ m) f = (f d (inl refl), heads m (λ e i. f e (inr i)))

    there : (d : Cell) → IsIn d (behind slots star bound) → IsIn d (c ∷ behind slots star (Some c))
    there d m = by (cell_cmp c d) refl
      where
        one : IsOneBehind slots star bound d
        one = member_one slots star bound d m

        by : (o : Ordering) → cell_cmp c d ≡ o → IsIn d (c ∷ behind slots star (Some c))
        by Less e = inr (one_member slots star (Some c) d
            (record { place = one.place; listed = one.listed; there = one.there; behind = ap is_lt e }))
        by Equal e = inl (cell_same c d e)
        by Greater e = absurd (l.least d one (cell_after c d e))

    back : (d : Cell) → IsIn d (c ∷ behind slots star (Some c)) → IsIn d (behind slots star bound)
    back d (inl e) = subst (λ x. IsIn x (behind slots star bound)) e (one_member slots star bound c l.one)
    back d (inr m) = (let o = member_one slots star (Some c) d m in
        one_member slots star bound d (record {
          place = o.place;
          listed = o.listed;
          there = o.there;
          behind =
              after_more bound c d l.one.behind o.behind;
        }))

-- ---- one more place

-- an option has one value
one_cell : (c d : Cell) → Some c ≡ Some d → c ≡ d
one_cell c d e = cc e

-- what was found so far, each found thing being seen as a cell
abbrev pub Found : {X : Type 0} → (X → Cell) → List (Option Cell) → List ℕ → Option Cell → Option X → Type 0
Found f slots star bound o = MatchOption o (HaveNone slots star bound) (λ x. IsLeastBehind slots star bound (f x))

-- a cell at one of the first i places is at one of the first i + 1
widened : (slots : List (Option Cell)) (star : List ℕ) (bound : Option Cell) (i : ℕ) (c : Cell) →
    IsOneBehind slots (take i star) bound c → IsOneBehind slots (take (suc i) star) bound c
widened slots star bound i c o = record {
  place = o.place;
  listed = more_one star i o.place o.listed;
  there =
      o.there;
  behind = o.behind;
}

-- a place that is free, or whose cell is not behind the bound, changes nothing
pub passed : {X : Type 0} (f : X → Cell) (slots : List (Option Cell)) (star : List ℕ) (bound : Option Cell) (i x : ℕ)
    (o : Option X) → i < length star → x ≡ slice_index_or star i 0 →
    ((d : Cell) → at_slot slots x ≡ Some d → is_after bound d ≡ true → ⊥) → Found f slots (take i star) bound o →
    Found f slots (take (suc i) star) bound o
passed {X} f slots star bound i x o h e none_so found = by o found
  where
    narrowed : (d : Cell) → IsOneBehind slots (take (suc i) star) bound d → IsOneBehind slots (take i star) bound d
    narrowed d k = elim (in_more star i x 0 k.place h e k.listed) [
      | inl m ↦ record { place = k.place; listed = m; there = k.there; behind = k.behind }
      | inr q ↦ absurd (none_so d (ap (at_slot slots) q ∙ k.there) k.behind)
    ]

    by : (o : Option X) → Found f slots (take i star) bound o → Found f slots (take (suc i) star) bound o
    by None n = λ d k. n d (narrowed d k)
    by (Some c) l = record { one = widened slots star bound i (f c) l.one; least = λ d k. l.least d (narrowed d k) }

-- a cell that is not less than the least so far
pub not_less : (slots : List (Option Cell)) (star : List ℕ) (bound : Option Cell) (i x : ℕ) (c cell : Cell) →
    i < length star → x ≡ slice_index_or star i 0 → at_slot slots x ≡ Some cell → cell_cmp c cell ≡ Less →
    IsLeastBehind slots (take i star) bound c → IsLeastBehind slots (take (suc i) star) bound c
not_less slots star bound i x c cell h e a lt l = record { one = widened slots star bound i c l.one; least = least }
  where
    least : (d : Cell) → IsOneBehind slots (take (suc i) star) bound d → cell_cmp d c ≡ Less → ⊥
    least d k m = elim (in_more star i x 0 k.place h e k.listed) [
      | inl n ↦ l.least d (record { place = k.place; listed = n; there = k.there; behind = k.behind }) m
      | inr q ↦ (let same : cell ≡ d = one_cell cell d (sym a ∙ ap (at_slot slots) q ∙ k.there) in
          let t = cell_before c cell c lt (subst (λ y. cell_cmp y c ≡ Less) (sym same) m) in
          let s = cell_self c in absurd (cc (s, t)))
    ]

-- a cell that is
pub lesser : {X : Type 0} (f : X → Cell) (slots : List (Option Cell)) (star : List ℕ) (bound : Option Cell) (i x : ℕ)
    (o : Option X) (cell : Cell) → i < length star → x ≡ slice_index_or star i 0 → at_slot slots x ≡ Some cell →
    is_after bound cell ≡ true → ((c : X) → o ≡ Some c → cell_cmp (f c) cell ≡ Less → ⊥) →
    Found f slots (take i star) bound o → IsLeastBehind slots (take (suc i) star) bound cell
lesser {X} f slots star bound i x o cell h e a b none_so found =
    record { one = record { place = x; listed = last_one star i x 0 h e; there = a; behind = b }; least = least }
  where
    older : (o : Option X) → ((c : X) → o ≡ Some c → cell_cmp (f c) cell ≡ Less → ⊥) →
        Found f slots (take i star) bound o → (d : Cell) → IsOneBehind slots (take i star) bound d →
        cell_cmp d cell ≡ Less → ⊥
    older None w n d k m = n d k
    older (Some c) w l d k m = by (cell_cmp (f c) cell) refl
      where
        by : (r : Ordering) → cell_cmp (f c) cell ≡ r → ⊥
        by Less q = w c refl q
        by Equal q = l.least d k (subst (λ y. cell_cmp d y ≡ Less) (sym (cell_same (f c) cell q)) m)
        by Greater q = l.least d k (cell_before d cell (f c) m (cell_after (f c) cell q))

    least : (d : Cell) → IsOneBehind slots (take (suc i) star) bound d → cell_cmp d cell ≡ Less → ⊥
    least d k m = elim (in_more star i x 0 k.place h e k.listed) [
      | inl n ↦ older o none_so found d (record { place = k.place; listed = n; there = k.there; behind = k.behind }) m
      | inr q ↦ (let same : cell ≡ d = one_cell cell d (sym a ∙ ap (at_slot slots) q ∙ k.there) in
          let s = cell_self cell in let t = subst (λ y. cell_cmp y cell ≡ Less) (sym same) m in absurd (cc (s, t)))
    ]

-- no fewer than all are all
pub all_taken : (l : List ℕ) (i : ℕ) → (i < length l → ⊥) → take i l ≡ l
all_taken [] zero h = refl
all_taken [] (suc i) h = refl
all_taken (x ∷ l) zero h = absurd (h (omega arith))
all_taken (x ∷ l) (suc i) h = ap (λ (m : List ℕ). x ∷ m) (all_taken l i (λ k. h (omega (arith, k))))

-- nothing stands at a free place
pub free_place : (slots : List (Option Cell)) (x : ℕ) (bound : Option Cell) → at_slot slots x ≡ None → (d : Cell) →
    at_slot slots x ≡ Some d → is_after bound d ≡ true → ⊥
free_place slots x bound e d f b = let g = sym e ∙ f in absurd (cc g)

-- a cell that is not behind the bound
pub not_behind : (slots : List (Option Cell)) (x : ℕ) (bound : Option Cell) (cell : Cell) →
    at_slot slots x ≡ Some cell →
    is_after bound cell ≡ false → (d : Cell) → at_slot slots x ≡ Some d → is_after bound d ≡ true → ⊥
not_behind slots x bound cell e n d f b = (let same = one_cell cell d (sym e ∙ f) in let t =
    ap (is_after bound) same ∙ b in absurd (cc (n, t)))

-- what the test against the least so far says
pub test_false : {X : Type 0} (f : X → Cell) (o : Option X) (cell : Cell) (r : Bool) → r ≡ false →
    MatchOption o (r ≡ false) (λ c. r ≡ is_lt (cell_cmp (f c) cell)) → (c : X) → o ≡ Some c →
    cell_cmp (f c) cell ≡ Less → ⊥
test_false f None cell r e m c q l = absurd (cc q)
test_false f (Some d) cell r e m c q l = (let same : d ≡ c = cc q in
    not_lt (cell_cmp (f d) cell) (sym m ∙ e) (subst (λ y. cell_cmp (f y) cell ≡ Less) (sym same) l))

-- so where the test found it not to be less
pub not_less_found : {X : Type 0} (f : X → Cell) (slots : List (Option Cell)) (star : List ℕ) (bound : Option Cell)
    (i x : ℕ) (o : Option X) (cell : Cell) (r : Bool) → i < length star → x ≡ slice_index_or star i 0 →
    at_slot slots x ≡ Some cell → r ≡ true → MatchOption o (r ≡ false) (λ c. r ≡ is_lt (cell_cmp (f c) cell)) →
    Found f slots (take i star) bound o → Found f slots (take (suc i) star) bound o
not_less_found f slots star bound i x None cell r h e a t m found = absurd (cc (t, m))
not_less_found f slots star bound i x (Some c) cell r h e a t m found =
    not_less slots star bound i x (f c) cell h e a (is_less (cell_cmp (f c) cell) (sym m ∙ t)) found

-- with the next place passed over, what was found so far is found of one place more
pub passed_one : {X : Type 0} (f : X → Cell) (slots : List (Option Cell)) (star : List ℕ) (bound : Option Cell)
    (i x : ℕ) (o : Option X) → i < length star → x ≡ slice_index_or star i 0 →
    ((d : Cell) → at_slot slots x ≡ Some d → is_after bound d ≡ true → ⊥) → Found f slots (take i star) bound o →
    Found f slots (take (i + 1) star) bound o
passed_one f slots star bound i x o h e n found = rw add-one (passed f slots star bound i x o h e n found)

-- and so where its cell is the least so far
pub lesser_one : {X : Type 0} (f : X → Cell) (slots : List (Option Cell)) (star : List ℕ) (bound : Option Cell)
    (i x : ℕ) (o : Option X) (cell : Cell) → i < length star → x ≡ slice_index_or star i 0 →
    at_slot slots x ≡ Some cell →
    is_after bound cell ≡ true → ((c : X) → o ≡ Some c → cell_cmp (f c) cell ≡ Less → ⊥) →
    Found f slots (take i star) bound o → IsLeastBehind slots (take (i + 1) star) bound cell
lesser_one f slots star bound i x o cell h e a b n found =
    rw add-one (lesser f slots star bound i x o cell h e a b n found)

-- and where it is not
pub not_less_one : {X : Type 0} (f : X → Cell) (slots : List (Option Cell)) (star : List ℕ) (bound : Option Cell)
    (i x : ℕ) (o : Option X) (cell : Cell) (r : Bool) → i < length star → x ≡ slice_index_or star i 0 →
    at_slot slots x ≡ Some cell → r ≡ true → MatchOption o (r ≡ false) (λ c. r ≡ is_lt (cell_cmp (f c) cell)) →
    Found f slots (take i star) bound o → Found f slots (take (i + 1) star) bound o
not_less_one f slots star bound i x o cell r h e a t m found =
    rw add-one (not_less_found f slots star bound i x o cell r h e a t m found)

-- ---- a star is what its vertex filters

-- with no bound all are behind it
all_true : (l : List Cell) → filter (is_after None) l ≡ l
all_true [] = refl
all_true (c ∷ l) = ap (λ (m : List Cell). c ∷ m) (all_true l)

-- the star is that of the vertex
abbrev pub IsStarOf : Placed → ℕ → List ℕ → Type 0
IsStarOf b p star = (i : ℕ) → (IsIn i star → IsStarred b.keys b.stars p i)
    × (IsStarred b.keys b.stars p i → IsIn i star)

-- the cells at the places of a star are those with its vertex
pub named_has : (b : Placed) (p : ℕ) (star : List ℕ) → AreStars b → IsStarOf b p star → (c : Cell) →
    IsIn c (named b.slots star) → IsIn c (filter (λ c. is_among p (points_of c)) (cells_of b.slots))
unfolding cells_of
named_has b p star s h c k =
    let t = at_named b.slots star c k in
    let r = s.names p t.0 ((h t.0).0 t.1) in
    let same : r.cell ≡ c = cc (r.there, t.2) in
    filtered_true (λ c. is_among p (points_of c)) (with_all_cells (live b.slots) []) c
    (withs_new (live b.slots) [] c (live_at b.slots t.0 c t.2))
    (among_true p (points_of c) (subst (λ d. IsIn p (points_of d)) same r.has))

-- and each cell with the vertex stands at a place of its star
pub has_named : (b : Placed) (p : ℕ) (star : List ℕ) → AreStars b → IsStarOf b p star → lies_in b.place p ≡ true →
    (c : Cell) → IsIn c (filter (λ c. is_among p (points_of c)) (cells_of b.slots)) → IsIn c (named b.slots star)
unfolding cells_of
has_named b p star s h n c m =
    let f = filtered_from (λ c. is_among p (points_of c)) (with_all_cells (live b.slots) []) c m in
    elim (in_withs (live b.slots) [] c f.0) [
      | inl k ↦ (let t = at_live b.slots c k in
          named_at b.slots star t.0 c ((h t.0).1 (s.listed p t.0 c t.1 (among_from p (points_of c) f.1) n)) t.1)
      | inr k ↦ absurd k
    ]

-- so the cells of a star in order are those of the bucket that have the vertex
pub star_filters : (b : Placed) (p : ℕ) (star : List ℕ) → AreStars b → IsStarOf b p star → lies_in b.place p ≡ true →
    behind b.slots star None ≡ filter (λ c. is_among p (points_of c)) (cells_of b.slots)
unfolding IsStrictlySortedBy cells_of
star_filters b p star s h n =
    all_true (with_all_cells (named b.slots star) [])
    ∙ same_members (with_all_cells (named b.slots star) []) (filter test (with_all_cells (live b.slots) []))
    (withs_sorted (named b.slots star) [] tt)
    (IsStrictlySortedBy-filter cell_cmp test (with_all_cells (live b.slots) [])
    (withs_sorted (live b.slots) [] tt)) there back
  where
    test : Cell → Bool
    test c = is_among p (points_of c)

    there : (c : Cell) → IsIn c (with_all_cells (named b.slots star) []) →
        IsIn c (filter test (with_all_cells (live b.slots) []))
    there c m = elim (in_withs (named b.slots star) [] c m) [ inl k ↦ named_has b p star s h c k | inr k ↦ absurd k ]

    back : (c : Cell) → IsIn c (filter test (with_all_cells (live b.slots) [])) →
        IsIn c (with_all_cells (named b.slots star) [])
    back c m = withs_new (named b.slots star) [] c (has_named b p star s h n c m)
