-- Every pair lies in an even number of the triangles of a boundary: pairs are counted with the triples and cells that
-- have them, by cells and by triples.
use Rattle.std.proofs.Common.{◌≡◌, ◌≢◌, refl, sym, subst, ap, ap₂, ◌∙◌, ℕ, suc, inl, inr, Bool, true, false, List, []}
use Rattle.std.proofs.Common.{◌∷◌, map, length, arith, pos}
use Rattle.std.specs.Prelude.{◌⊎◌, ◌&&◌, ◌||◌, ◌==◌, not, Option, None, Some, filter_map}
use Rattle.std.specs.List.{filter, list_all}
use Rattle.std.specs.Int.Signed.{lt_z}
use Rattle.std.proofs.lemmas.Bool.Decides.{nat_tests}
use Rattle.list_laws.specs.Laws.{odd, xor}
use Rattle.list_laws.specs.Lists.{AreDistinct, IsIn}
use Rattle.list_laws.proofs.Cited.{all_from, all_true, among_from, among_true, differ_from, distinct_ascending}
use Rattle.list_laws.proofs.Cited.{filtered_ascending, filtered_from, filtered_true, from_append, mapped_from}
use Rattle.list_laws.proofs.Cited.{mapped_true, none_even, same_from, true_or_false, two_even}
use Rattle.point_order.specs.declared.cell.Cell.{Cell}
use Rattle.point_order.specs.declared.cell.Cell.TheVariants.{Full, Open}
use Rattle.point_order.specs.declared.cell.Facet.TheVariants.{Three}
use Rattle.point_order.specs.Complex.{complex, is_full}
use Rattle.point_order.specs.Orientation.{orientation}
use Rattle.point_order.specs.Sets.{IsAscending, is_among}
use Rattle.point_order.specs.Subsets.{subsets}
use Rattle.del_laws.specs.Keys.{AreKeys}
use Rattle.del_laws.proofs.Cited.{listed_facets, part_ascending, part_true}
use Rattle.face_list.specs.Faces.{cells_with, parts_in, with_cells_around}
use Rattle.face_list.proofs.Cited.{listed_is_part, part_is_listed, part_length, parts_in_order}
use Rattle.solid_parts.specs.Boundary.{apex_of, outer_of, turned}
use Rattle.solid_parts.specs.Laws.{EdgesAreEven, has_both}
use Rattle.solid_parts.proofs.Solid.{distinct_in_order, full_ascends}
use Rattle.alpha_complex.proofs.Cited.{triple_facet as three_facet, no_longer, whole_only}
use Rattle.list_laws.proofs.Cited.{both_true as and_true, odd_xor as odd_sum}

-- ---- sums of parities

-- tests that agree at the members
odd_on : {X : Type 0} (p q : X → Bool) (xs : List X) → ((x : X) → IsIn x xs → p x ≡ q x) → odd p xs ≡ odd q xs
odd_on p q [] f = refl
odd_on p q (x ∷ xs) f = ap₂ xor (f x (inl refl)) (odd_on p q xs (λ y i. f y (inr i)))

-- counted by the one list or by the other
odd_swap : {X Y : Type 0} (m : X → Y → Bool) (xs : List X) (ys : List Y) →
    odd (λ x. odd (m x) ys) xs ≡ odd (λ y. odd (λ x. m x y) xs) ys
odd_swap m [] ys = sym (none_even (λ y. false) ys (λ y i. refl))
odd_swap m (x ∷ xs) ys = ap (xor (odd (m x) ys)) (odd_swap m xs ys) ∙ sym (odd_sum (m x) (λ y. odd (λ z. m z y) xs) ys)

-- ---- turned triangles

-- two terms of a disjunction can be exchanged
or_swap : (a b c : Bool) → (a || (b || (c || false))) ≡ (a || (c || (b || false)))
or_swap true b c = refl
or_swap false true true = refl
or_swap false true false = refl
or_swap false false true = refl
or_swap false false false = refl

-- a triple has the same points when it is turned
turned_has : (t : List ℕ) (d x : ℕ) → length t ≡ 3 → is_among x (turned t d) ≡ is_among x t
turned_has [] d x e = absurd (omega (arith, e))
turned_has (a ∷ []) d x e = absurd (omega (arith, e))
turned_has (a ∷ b ∷ []) d x e = absurd (omega (arith, e))
turned_has (a ∷ b ∷ c ∷ []) d x e = by (lt_z (orientation a b c d) (pos 0)) refl
  where
    by : (r : Bool) → lt_z (orientation a b c d) (pos 0) ≡ r → is_among x (turned (a ∷ b ∷ c ∷ []) d) ≡ is_among x
        (a ∷ b ∷ c ∷ [])
    by true f = rw f refl
    by false f = rw f (or_swap (a == x) (c == x) (b == x))
turned_has (a ∷ b ∷ c ∷ f ∷ t) d x e = absurd (omega (arith, e))

-- so a turned triple has two points exactly where the triple does
both_turned : (t : List ℕ) (d x y : ℕ) → length t ≡ 3 → has_both x y (turned t d) ≡ has_both x y t
both_turned t d x y e = ap₂ (λ a b. a && b) (turned_has t d x e) (turned_has t d y e)

-- what is given passes
abbrev passes : (List ℕ → Bool) → Option (List ℕ) → Bool
passes p None = false
passes p (Some f) = p f

-- of what is given, oddly many pass where oddly many give what passes
odd_given : {X : Type 0} (p : List ℕ → Bool) (g : X → Option (List ℕ)) (xs : List X) →
    odd p (filter_map g xs) ≡ odd (λ x. passes p (g x)) xs
odd_given p g [] = refl
odd_given {X} p g (x ∷ xs) = by (g x) refl (odd_given p g xs)
  where
    by : (o : Option (List ℕ)) → g x ≡ o → odd p (filter_map g xs) ≡ odd (λ y. passes p (g y)) xs →
        odd p (filter_map g (x ∷ xs)) ≡ xor (passes p (g x)) (odd (λ y. passes p (g y)) xs)
    by None e h = rw e h
    by (Some f) e h = rw e (ap (xor (p f)) h)

-- and so of what is mapped
odd_mapped : {X Y : Type 0} (p : Y → Bool) (f : X → Y) (xs : List X) → odd p (map f xs) ≡ odd (λ x. p (f x)) xs
odd_mapped p f [] = refl
odd_mapped p f (x ∷ xs) = ap (xor (p (f x))) (odd_mapped p f xs)

-- ---- one element less

-- the points without one of them
without : ℕ → List ℕ → List ℕ
without x q = filter (λ i. not (i == x)) q

-- without a point that is not there they are the same
unlike_kept : (q : List ℕ) (x : ℕ) → ¬ (IsIn x q) → without x q ≡ q
unfolding without
unlike_kept [] x n = refl
unlike_kept (a ∷ q) x n = by (a == x) refl (unlike_kept q x (λ i. n (inr i)))
  where
    by : (b : Bool) → (a == x) ≡ b → without x q ≡ q → without x (a ∷ q) ≡ a ∷ q
    by true e h = absurd (n (inl (same_from a x e)))
    by false e h = rw e (ap (λ (v : List ℕ). a ∷ v) h)

-- without one that is there they are one less
one_less : (q : List ℕ) (x : ℕ) → AreDistinct q → IsIn x q → suc (length (without x q)) ≡ length q
unfolding without
one_less [] x d i = absurd i
one_less (a ∷ q) x d i = by (a == x) refl (one_less q x d.1)
  where
    by : (b : Bool) → (a == x) ≡ b → (IsIn x q → suc (length (without x q)) ≡ length q) →
        suc (length (without x (a ∷ q))) ≡ suc (length q)
    by true e h = rw e (ap (λ (v : List ℕ). suc (length v)) (unlike_kept q x
        (λ j. d.0 (subst (λ n. IsIn n q) (sym (same_from a x e)) j))))
    by false e h = rw e (ap suc (h (elim i [ inl f ↦ absurd (differ_from a x e f) | inr j ↦ j ])))

-- what is left is a point, and another one
kept_from : (q : List ℕ) (x z : ℕ) → IsIn z (without x q) → IsIn z q × (z ≢ x)
unfolding without
kept_from q x z i = let f = filtered_from (λ i. not (i == x)) q z i in (f.0, λ e. no (z == x) f.1 (same_true z x e))
  where
    no : (b : Bool) → not b ≡ true → b ≡ true → ⊥
    no true e f = cc
    no false e f = cc

    same_true : (z x : ℕ) → z ≡ x → (z == x) ≡ true
    same_true z x e = grind (arith, nat_tests)

-- and each other point is left
kept_true : (q : List ℕ) (x z : ℕ) → IsIn z q → z ≢ x → IsIn z (without x q)
unfolding without
kept_true q x z i n = filtered_true (λ i. not (i == x)) q z i (by (z == x) refl)
  where
    by : (b : Bool) → (z == x) ≡ b → not (z == x) ≡ true
    by true e = absurd (n (same_from z x e))
    by false e = rw e refl

-- what is left ascends
ascends_without : (q : List ℕ) (x : ℕ) → IsAscending q → IsAscending (without x q)
unfolding without
ascends_without q x a = filtered_ascending (λ i. not (i == x)) q a

-- the other two of four
record OtherTwo (q : List ℕ) (x y : ℕ) : Type 0 where
  pub z : ℕ
  pub w : ℕ
  pub has_z : IsIn z q
  pub has_w : IsIn w q
  pub z_x : z ≢ x
  pub z_y : z ≢ y
  pub w_x : w ≢ x
  pub w_y : w ≢ y
  pub apart : z ≢ w
  pub only : (i : ℕ) → IsIn i q → i ≢ x → i ≢ y → (i ≡ z) ⊎ (i ≡ w)

-- four points have two besides any two of them
other_two : (q : List ℕ) (x y : ℕ) → IsAscending q → length q ≡ 4 → IsIn x q → IsIn y q → x ≢ y → OtherTwo q x y
other_two q x y a e i j n =
    let r = without x q in
    let first = one_less q x (distinct_ascending q a) i in
    let second = one_less r y (distinct_ascending r (ascends_without q x a)) (kept_true q x y j (λ f. n (sym f))) in
    by (without y r) refl (count (length q) (length r) (length (without y r)) e first second)
  where
    count : (k m l : ℕ) → k ≡ 4 → suc m ≡ k → suc l ≡ m → l ≡ 2
    count k m l e f g = omega (arith, e, f, g)

    by : (rest : List ℕ) → without y (without x q) ≡ rest → length rest ≡ 2 → OtherTwo q x y
    by [] f l = absurd (omega (arith, l))
    by (z ∷ []) f l = absurd (omega (arith, l))
    by (z ∷ w ∷ []) f l =
        let up = subst IsAscending f (ascends_without (without x q) y (ascends_without q x a)) in
        let at : (k : ℕ) → IsIn k (z ∷ w ∷ []) → IsIn k q × (k ≢ x) × (k ≢ y) = λ k m. (
        let o = kept_from (without x q) y k (subst (IsIn k) (sym f) m) in
        let p = kept_from q x k o.0 in
        (p.0, p.1, o.1)) in
        record {
          z = z;
          w = w;
          has_z = (at z (inl refl)).0;
          has_w = (at w (inr (inl refl))).0;
          z_x = (at z (inl refl)).1;
          z_y = (at z (inl refl)).2;
          w_x = (at w (inr (inl refl))).1;
          w_y = (at w (inr (inl refl))).2;
          apart = λ g. (distinct_ascending (z ∷ w ∷ []) up).0 (inl (sym g));
          only = λ k m g h. told k (subst (IsIn k) f (kept_true (without x q) y k (kept_true q x k m g) h));
        }
      where
        told : (k : ℕ) → IsIn k (z ∷ w ∷ []) → (k ≡ z) ⊎ (k ≡ w)
        told k (inl g) = inl (sym g)
        told k (inr (inl g)) = inr (sym g)
        told k (inr (inr none)) = absurd none
    by (z ∷ w ∷ v ∷ rest) f l = absurd (omega (arith, l))

-- ---- parts of ascending lists

-- ascending lists of one length, of which the one has the members of the other, are one
same_list : (t p : List ℕ) → IsAscending t → IsAscending p → ((i : ℕ) → IsIn i p → IsIn i t) → length t ≡ length p →
    t ≡ p
same_list t p a b f e = whole_only t p (subst (λ n. IsIn p (subsets n t)) (sym e) (part_true t p a b f))

-- four do not stand in three
too_many : (t q : List ℕ) → IsAscending t → IsAscending q → length t ≡ 3 → length q ≡ 4 →
    ((i : ℕ) → IsIn i q → IsIn i t) → ⊥
too_many t q a b e f g = no_longer (length q) t q (omega (arith, e, f)) (part_true t q a b g)

-- ---- the triples of one cell

-- the second list has all points of the first
pub has_all : List ℕ → List ℕ → Bool
has_all t q = list_all (λ p. is_among p q) t

-- where the test passes it does
has_all_from : (t q : List ℕ) → has_all t q ≡ true → (i : ℕ) → IsIn i t → IsIn i q
unfolding has_all
has_all_from t q e i m = among_from i q (all_from (λ p. is_among p q) t e i m)

-- and where it does the test passes
has_all_true : (t q : List ℕ) → ((i : ℕ) → IsIn i t → IsIn i q) → has_all t q ≡ true
unfolding has_all
has_all_true t q f = all_true (λ p. is_among p q) t (λ p i. among_true p q (f p i))

-- where two tests together pass, each does
and_parts : (a b : Bool) → (a && b) ≡ true → (a ≡ true) × (b ≡ true)
and_parts true true e = (refl, refl)
and_parts true false e = cc
and_parts false b e = cc

-- What is given: triples, each ascending, each once, with all those of a cell q.
pub record Triples (ts : List (List ℕ)) (q : List ℕ) : Type 0 where
  pub distinct : AreDistinct ts
  pub three : (t : List ℕ) → IsIn t ts → length t ≡ 3
  pub ascends : (t : List ℕ) → IsIn t ts → IsAscending t
  pub all : (t : List ℕ) → IsIn t (subsets 3 q) → IsIn t ts

-- the triple of a cell without one of its points
lacks : (q : List ℕ) (w : ℕ) → IsAscending q → length q ≡ 4 → IsIn w q → (ts : List (List ℕ)) → Triples ts q →
    IsIn (without w q) ts
lacks q w a e i ts g =
    let three : length (without w q) ≡ 3 = count (length q) (length (without w q)) e
    (one_less q w (distinct_ascending q a) i) in
    g.all (without w q) (subst (λ n. IsIn (without w q) (subsets n q)) three
    (part_true q (without w q) a (ascends_without q w a) (λ k m. (kept_from q w k m).0)))
  where
    count : (k m : ℕ) → k ≡ 4 → suc m ≡ k → m ≡ 3
    count k m e f = omega (arith, e, f)

-- a triple of the cell has both points
abbrev on_both : ℕ → ℕ → List ℕ → List ℕ → Bool
on_both x y q t = has_both x y t && has_all t q

-- evenly many of the triples have both points and are in the cell
pub even_in_cell : (ts : List (List ℕ)) (q : List ℕ) (x y : ℕ) → IsAscending q → length q ≡ 4 → Triples ts q → x ≢ y →
    odd (λ t. has_both x y t && has_all t q) ts ≡ false
even_in_cell ts q x y a e g n = elim (true_or_false (is_among x q)) [
  | inl i ↦ elim (true_or_false (is_among y q)) [
    | inl j ↦ two (other_two q x y a e (among_from x q i) (among_from y q j) n) (among_from x q i) (among_from y q j)
    | inr j ↦ none_even (on_both x y q) ts (λ t m. never t y j (λ h. (and_parts (is_among x t) (is_among y t) h).1))
  ]
  | inr i ↦ none_even (on_both x y q) ts (λ t m. never t x i (λ h. (and_parts (is_among x t) (is_among y t) h).0))
]
  where
    clash : (b : Bool) → b ≡ true → b ≡ false → ⊥
    clash b e f = cc

    never : (t : List ℕ) (z : ℕ) → is_among z q ≡ false → (has_both x y t ≡ true → is_among z t ≡ true) →
        on_both x y q t ≡ false
    never t z f h = elim (true_or_false (has_both x y t && has_all t q)) [
      | inl k ↦ (
          let r = and_parts (has_both x y t) (has_all t q) k in
          absurd (clash (is_among z q) (among_true z q (has_all_from t q r.1 z (among_from z t (h r.0)))) f))
      | inr k ↦ k
    ]

    passes_test : (t : List ℕ) → IsIn x t → IsIn y t → ((i : ℕ) → IsIn i t → IsIn i q) → on_both x y q t ≡ true
    passes_test t i j f = and_true (has_both x y t) (has_all t q) (and_true (is_among x t) (is_among y t)
        (among_true x t i) (among_true y t j)) (has_all_true t q f)

    less : (q t : List ℕ) (w : ℕ) → ((i : ℕ) → IsIn i t → IsIn i q) → ¬ (IsIn w t) → (i : ℕ) → IsIn i t →
        IsIn i (without w q)
    less q t w f n i m = kept_true q w i (f i m) (λ h. n (subst (λ k. IsIn k t) h m))

    count : (k m : ℕ) → k ≡ 4 → suc m ≡ k → m ≡ 3
    count k m e f = omega (arith, e, f)

    is_without : (t : List ℕ) (w : ℕ) → IsIn t ts → IsIn w q → ((i : ℕ) → IsIn i t → IsIn i q) → ¬ (IsIn w t) →
        t ≡ without w q
    is_without t w m k f n = sym (same_list (without w q) t (ascends_without q w a) (g.ascends t m) (less q t w f n)
        (count (length q) (length (without w q)) e (one_less q w (distinct_ascending q a) k) ∙ sym (g.three t m)))

    which : (o : OtherTwo q x y) (t : List ℕ) → IsIn t ts → on_both x y q t ≡ true → (t ≡ without o.w q) ⊎
        (t ≡ without o.z q)
    which o t m k =
        let r = and_parts (has_both x y t) (has_all t q) k in
        let s = and_parts (is_among x t) (is_among y t) r.0 in
        let f = has_all_from t q r.1 in
        elim (true_or_false (is_among o.w t)) [
          | inr h ↦ inl (is_without t o.w m o.has_w f (λ i. clash (is_among o.w t) (among_true o.w t i) h))
          | inl h ↦ elim (true_or_false (is_among o.z t)) [
            | inr l ↦ inr (is_without t o.z m o.has_z f (λ i. clash (is_among o.z t) (among_true o.z t i) l))
            | inl l ↦ absurd (too_many t q (g.ascends t m) a (g.three t m) e
                (λ i j. every i j (among_from x t s.0) (among_from y t s.1) (among_from o.z t l) (among_from o.w t h)))
          ]
        ]
      where
        every : (i : ℕ) → IsIn i q → IsIn x t → IsIn y t → IsIn o.z t → IsIn o.w t → IsIn i t
        every i j a b c d = elim (true_or_false (i == x)) [
          | inl e ↦ subst (λ n. IsIn n t) (sym (same_from i x e)) a
          | inr e ↦ elim (true_or_false (i == y)) [
            | inl f ↦ subst (λ n. IsIn n t) (sym (same_from i y f)) b
            | inr f ↦ elim (o.only i j (differ_from i x e) (differ_from i y f))
                [ inl g ↦ subst (λ n. IsIn n t) (sym g) c | inr g ↦ subst (λ n. IsIn n t) (sym g) d ]
          ]
        ]

    two : OtherTwo q x y → IsIn x q → IsIn y q → odd (λ t. has_both x y t && has_all t q) ts ≡ false
    two o i j =
        let u = without o.w q in
        let v = without o.z q in
        two_even (on_both x y q) u v ts g.distinct (lacks q o.w a e o.has_w ts g) (lacks q o.z a e o.has_z ts g)
        (λ f. (kept_from q o.z o.z (subst (IsIn o.z) f (kept_true q o.w o.z o.has_z o.apart))).1 refl)
        (passes_test u (kept_true q o.w x i (λ f. o.w_x (sym f))) (kept_true q o.w y j (λ f. o.w_y (sym f)))
        (λ k m. (kept_from q o.w k m).0))
        (passes_test v (kept_true q o.z x i (λ f. o.z_x (sym f))) (kept_true q o.z y j (λ f. o.z_y (sym f)))
        (λ k m. (kept_from q o.z k m).0))
        (λ t m k. which o t m k)

-- ---- the cells of one triple

-- a Full cell of a complex has four points
full_four : (s q : List ℕ) → IsIn (Full q) (complex s) → length q ≡ 4
unfolding complex
full_four s q i = elim (from_append (Full q) (map Full (filter (is_full s) (subsets 4 s))) _ i) [
  | inl j ↦ (
      let r = mapped_from Full (Full q) (filter (is_full s) (subsets 4 s)) j in
      subst (λ (v : List ℕ). length v ≡ 4) (same r.0 q r.2) (part_length 4 s r.0
      (filtered_from (is_full s) (subsets 4 s) r.0 r.1).0))
  | inr j ↦ let r = mapped_from Open (Full q) _ j in absurd (not_open r.0 r.2)
]
  where
    same : (q r : List ℕ) → Full q ≡ Full r → q ≡ r
    same q r e = cc

    not_open : (t : List ℕ) → Open t ≡ Full q → ⊥
    not_open t e = cc

-- the cells with a triple, of Full ones
with_full : (t : List ℕ) (cells : List (List ℕ)) → cells_with t (map Full cells) ≡ map Full (filter (has_all t) cells)
unfolding has_all
with_full t [] = refl
with_full t (q ∷ cells) = by (has_all t q) refl (with_full t cells)
  where
    by : (b : Bool) → has_all t q ≡ b → cells_with t (map Full cells) ≡ map Full (filter (has_all t) cells) →
        cells_with t (map Full (q ∷ cells)) ≡ map Full (filter (has_all t) (q ∷ cells))
    by true e h = rw e (ap (λ (v : List Cell). Full q ∷ v) h)
    by false e h = rw e h

-- how many pass is how many are left of the list
odd_filter : {X : Type 0} (r : X → Bool) (xs : List X) → odd r xs ≡ odd (λ x. true) (filter r xs)
odd_filter r [] = refl
odd_filter {X} r (x ∷ xs) = by (r x) refl (odd_filter r xs)
  where
    by : (b : Bool) → r x ≡ b → odd r xs ≡ odd (λ y. true) (filter r xs) →
        odd r (x ∷ xs) ≡ odd (λ y. true) (filter r (x ∷ xs))
    by true e h = rw e (ap (xor true) h)
    by false e h = rw e h

-- a test that all share can be taken out
odd_and : {X : Type 0} (b : Bool) (r : X → Bool) (xs : List X) → odd (λ x. b && r x) xs ≡ (b && odd r xs)
odd_and true r xs = refl
odd_and false r xs = none_even (λ x. false) xs (λ x i. refl)

-- of a list that has none twice, what passes has none twice
distinct_kept : {X : Type 0} (r : X → Bool) (xs : List X) → AreDistinct xs → AreDistinct (filter r xs)
distinct_kept r [] d = tt
distinct_kept {X} r (x ∷ xs) d = by (r x) refl (distinct_kept r xs d.1)
  where
    by : (b : Bool) → r x ≡ b → AreDistinct (filter r xs) → AreDistinct (filter r (x ∷ xs))
    by true e h = rw e ((λ i. d.0 (filtered_from r xs x i).0), h)
    by false e h = rw e h

-- nothing passes together with a test that fails
and_false : (b : Bool) → (b && false) ≡ false
and_false true = refl
and_false false = refl

-- what passes passes together with one that passes
and_one : (b : Bool) → (b && true) ≡ b
and_one true = refl
and_one false = refl

-- one of three different cells on a triple would be too many
no_third : (s t q r u : List ℕ) → IsAscending s → AreKeys s → IsIn (Full q) (complex s) → IsIn (Full r) (complex s) →
    IsIn (Full u) (complex s) →
    IsIn t (subsets 3 q) → IsIn t (subsets 3 r) → IsIn t (subsets 3 u) → q ≢ r → q ≢ u → r ≢ u → ⊥
no_third s t q r u a k i j l f g h m n o =
    let other = listed_facets s (Full q) (Three t) a k i (three_facet q t (full_four s q i) f) in
    elim (other.only (Full r) j (three_facet r t (full_four s r j) g)) [
      | inl e ↦ m (sym (same r q e))
      | inr e ↦ elim (other.only (Full u) l (three_facet u t (full_four s u l) h)) [
        | inl d ↦ n (sym (same u q d))
        | inr d ↦ o (same r u (e ∙ sym d))
      ]
    ]
  where
    same : (q r : List ℕ) → Full q ≡ Full r → q ≡ r
    same q r e = cc

-- so every pair of points lies in an even number of the boundary's triples
pub edges_are_even : EdgesAreEven
edges_are_even s cells x y a k d f n =
    odd_given p outer_of (with_cells_around ts all)
    ∙ odd_mapped (λ (v : List ℕ × List Cell). passes p (outer_of v)) (λ t. (t, cells_with t all)) ts
    ∙ odd_on (λ t. passes p (outer_of (t, cells_with t all))) (λ t. odd (λ q. p t && has_all t q) cells) ts single
    ∙ odd_swap (λ t q. p t && has_all t q) ts cells
    ∙ none_even (λ q. odd (λ t. p t && has_all t q) ts) cells (λ q i. even_in_cell ts q x y (full_ascends s q a (f q i))
    (full_four s q (f q i)) (triples q i) n)
  where
    p : List ℕ → Bool
    p t = has_both x y t

    all : List Cell
    all = map Full cells

    ts : List (List ℕ)
    ts = parts_in 3 (map Full cells)

    three : (t : List ℕ) → IsIn t (parts_in 3 (map Full cells)) → (length t ≡ 3) × IsAscending t
    three t i =
        let h = listed_is_part 3 (map Full cells) t i in
        let c = mapped_from Full (Full h.q) cells h.listed in
        let whole = f h.q (subst (λ (v : List ℕ). IsIn v cells) (same c.0 h.q c.2) c.1) in
        (part_length 3 h.q t h.part, part_ascending 3 h.q t (full_ascends s h.q a whole) h.part)
      where
        same : (q r : List ℕ) → Full q ≡ Full r → q ≡ r
        same q r e = cc

    triples : (q : List ℕ) → IsIn q cells → Triples (parts_in 3 (map Full cells)) q
    triples q i = record {
      distinct = distinct_in_order (parts_in 3 (map Full cells)) (parts_in_order 3 (map Full cells));
      three = λ t m. (three t m).0;
      ascends = λ t m. (three t m).1;
      all = λ t m. part_is_listed 3 (map Full cells) t (record {
        q = q;
        listed = mapped_true Full q cells i;
        part =
            m;
      });
    }

    member : (t q : List ℕ) → IsIn q (filter (has_all t) cells) → IsIn t (parts_in 3 (map Full cells)) →
        IsIn (Full q) (complex s) × IsIn t (subsets 3 q)
    member t q i m =
        let r = filtered_from (has_all t) cells q i in
        let c = f q r.0 in
        let e = three t m in
        (c, subst (λ k. IsIn t (subsets k q)) e.0 (part_true q t (full_ascends s q a c) e.1 (has_all_from t q r.1)))

    counted : (t : List ℕ) → IsIn t (parts_in 3 (map Full cells)) → (l : List (List ℕ)) → AreDistinct l →
        ((q : List ℕ) → IsIn q l → IsIn q (filter (has_all t) cells)) →
        passes (has_both x y) (outer_of (t, map Full l)) ≡ (has_both x y t && odd (λ q. true) l)
    counted t m [] e g = sym (and_false (has_both x y t))
    counted t m (q ∷ []) e g = both_turned t (apex_of t q) x y (three t m).0 ∙ sym (and_one (has_both x y t))
    counted t m (q ∷ r ∷ []) e g = sym (and_false (has_both x y t))
    counted t m (q ∷ r ∷ u ∷ l) e g =
        let i = member t q (g q (inl refl)) m in
        let j = member t r (g r (inr (inl refl))) m in
        let o = member t u (g u (inr (inr (inl refl)))) m in
        absurd (no_third s t q r u a k i.0 j.0 o.0 i.1 j.1 o.1 (λ h. e.0 (inl (sym h))) (λ h. e.0 (inr (inl (sym h))))
        (λ h. e.1.0 (inl (sym h))))

    single : (t : List ℕ) → IsIn t (parts_in 3 (map Full cells)) →
        passes (has_both x y) (outer_of (t, cells_with t (map Full cells))) ≡ odd (λ q. has_both x y t && has_all t q)
        cells
    single t m =
        ap (λ (v : List Cell). passes (has_both x y) (outer_of (t, v))) (with_full t cells)
        ∙ counted t m (filter (has_all t) cells) (distinct_kept (has_all t) cells d) (λ q i. i)
        ∙ ap (λ b. has_both x y t && b) (sym (odd_filter (has_all t) cells))
        ∙ sym (odd_and (has_both x y t) (has_all t) cells)
