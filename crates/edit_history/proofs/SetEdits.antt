-- Edits of an ascending list, by place.
use Rattle.std.specs.Prelude.{◌≡◌, ℕ, zero, suc, ◌<◌, ◌≤◌, Bool, true, false, cond, not, ◌==◌, List, [], ◌∷◌, ◌⊎◌}
use Rattle.std.specs.Prelude.{length, slice_index, Result, Ok, Err, MatchResult, IfOk, IfErr, is_ok}
use Rattle.std.specs.List.{insert, remove}
use Rattle.std.proofs.Common.{refl, sym, ◌∙◌, ap, subst, inl, inr, arith}
use Rattle.std.proofs.lemmas.Bool.Decides.{nat_tests}
use Rattle.std.proofs.lemmas.Bool.{ne_eqb}
use Rattle.list_laws.proofs.Cited.{any_none, any_true, below_each, eq_same, first_below, index_in}
use Rattle.point_order.specs.Sets.{IsIn, IsAscending, is_among, with_point, without_point}
use Rattle.point_order.proofs.Cited.{ascending_with, with_cases}

-- the points before the place are below p, and those from it on are above
pub record IsGap (p i : ℕ) (s : List ℕ) : Type 0 where
  pub within : i ≤ length s
  pub below : (k : ℕ) → k < i → slice_index s k < p
  pub above : (k : ℕ) → i ≤ k → k < length s → p < slice_index s k

-- ---- members and places

-- an element of a list stands at some place
pub place_in : (s : List ℕ) (q : ℕ) → IsIn q s → (i : ℕ) × (i < length s) × (slice_index s i ≡ q)
place_in [] q k = absurd k
place_in (x ∷ s) q (inl e) = (0, omega arith, e)
place_in (x ∷ s) q (inr k) = let r = place_in s q k in (suc r.0, omega (arith, r.1), r.2)

-- ---- whether a point is there

-- a point that stands at a place is there
pub among_at : (s : List ℕ) (p i : ℕ) → i < length s → slice_index s i ≡ p → is_among p s ≡ true
among_at s p i h e = any_true (λ q. q == p) s (slice_index s i) (index_in s i h) (rw e (eq_same p))

-- a point that has a gap between those below and those above it is not there
pub among_gap : (s : List ℕ) (p i : ℕ) → IsGap p i s → is_among p s ≡ false
among_gap s p i g = any_none (λ q. q == p) s (λ q k. let r = place_in s q k in other r.0 r.1 q r.2)
  where
    other : (m : ℕ) → m < length s → (q : ℕ) → slice_index s m ≡ q → (q == p) ≡ false
    other m h q e = elim (sides m) [
      | inl l ↦ let b = g.below m l in ne_eqb q p (omega arith)
      | inr l ↦ let b = g.above m l h in ne_eqb q p (omega arith)
    ]
      where
        sides : (m : ℕ) → (m < i) ⊎ (i ≤ m)
        sides m = grind arith

-- ---- putting a point in

-- the gap is in the rest of the list, one place earlier
rest_gap : (x : ℕ) (s : List ℕ) (p i : ℕ) → IsGap p (suc i) (x ∷ s) → IsGap p i s
rest_gap x s p i g = record {
  within = omega (arith, g.within);
  below = λ k l. g.below (suc k) (omega arith);
  above = λ k l m. g.above (suc k) (omega arith) (omega arith);
}

-- a point put in at its gap gives the set with it
pub insert_is : (s : List ℕ) (p i : ℕ) → IsGap p i s → insert s i p ≡ with_point p s
insert_is [] p zero g = refl
insert_is [] p (suc i) g = absurd (omega (arith, g.within))
insert_is (x ∷ s) p zero g =
    let a : p < x = g.above 0 (omega arith) (omega arith) in
    elim (with_cases p x s) [
      | inl e ↦ sym e.1
      | inr o ↦ elim o [ inl e ↦ absurd (omega (arith, e.0)) | inr e ↦ absurd (omega (arith, e.0)) ]
    ]
insert_is (x ∷ s) p (suc i) g =
    let b : x < p = g.below 0 (omega arith) in
    let r = insert_is s p i (rest_gap x s p i g) in
    elim (with_cases p x s) [
      | inl e ↦ absurd (omega (arith, e.0))
      | inr o ↦ elim o [ inl e ↦ absurd (omega (arith, e.0)) | inr e ↦ ap (λ (t : List ℕ). x ∷ t) r ∙ sym e.1 ]
    ]

-- ---- taking a point out

-- where all are above a point, the set without the point is the set
without_none : (p : ℕ) (s : List ℕ) → ((q : ℕ) → IsIn q s → p < q) → without_point p s ≡ s
without_none p [] f = refl
without_none p (x ∷ s) f =
    let h : p < x = f x (inl refl) in
    let e : (x == p) ≡ false = grind (arith, nat_tests) in
    rw e (ap (λ (t : List ℕ). x ∷ t) (without_none p s (λ q i. f q (inr i))))

-- an ascending list without the element at the place of a point is the set without the point
pub remove_is : (s : List ℕ) (p i : ℕ) → IsAscending s → i < length s → slice_index s i ≡ p →
    remove s i ≡ without_point p s
remove_is [] p i h l e = absurd (omega arith)
remove_is (x ∷ s) p zero h l e =
    let f : (x == p) ≡ true = grind (arith, nat_tests) in
    rw f (sym (without_none p s (λ q i. subst (λ (y : ℕ). y < q) e (below_each x s h.0 h.1 q i))))
remove_is (x ∷ s) p (suc i) h l e =
    let b : x < slice_index s i = below_each x s h.0 h.1 (slice_index s i) (index_in s i (omega arith)) in
    let c : x < p = omega (arith, b, e) in
    let f : (x == p) ≡ false = grind (arith, nat_tests) in
    rw f (ap (λ (t : List ℕ). x ∷ t) (remove_is s p i h.1 (omega arith) e))

-- what is in the set without a point is in the set
in_without : (p : ℕ) (s : List ℕ) (q : ℕ) → IsIn q (without_point p s) → IsIn q s
in_without p [] q i = i
in_without p (x ∷ s) q i = by (x == p) i (in_without p s q)
  where
    by : (b : Bool) → IsIn q (cond (not b) (x ∷ without_point p s) (without_point p s)) →
        (IsIn q (without_point p s) → IsIn q s) → (x ≡ q) ⊎ IsIn q s
    by true i r = inr (r i)
    by false (inl e) r = inl e
    by false (inr j) r = inr (r j)

-- an ascending list without a point is ascending
pub ascending_without : (p : ℕ) (s : List ℕ) → IsAscending s → IsAscending (without_point p s)
ascending_without p [] h = tt
ascending_without p (x ∷ s) h = by (x == p) (ascending_without p s h.1)
  where
    by : (b : Bool) → IsAscending (without_point p s) → IsAscending
        (cond (not b) (x ∷ without_point p s) (without_point p s))
    by true a = a
    by false a = (first_below x (without_point p s) (λ q i. below_each x s h.0 h.1 q (in_without p s q i)), a)

-- ---- what a search found

-- a search answers Ok exactly where the point is there
pub search_there : (s : List ℕ) (p : ℕ) (r : Result ℕ ℕ) → MatchResult r (λ i. (i < length s) × (slice_index s i ≡ p))
    (λ i. (i ≤ length s) × ((k : ℕ) → k < i → slice_index s k < p)
    × ((k : ℕ) → i ≤ k → k < length s → p < slice_index s k)) → is_ok r ≡ is_among p s
search_there s p (Ok i) h = sym (among_at s p i h.0 h.1)
search_there s p (Err i) h = sym (among_gap s p i (record { within = h.0; below = h.1; above = h.2 }))

-- and then with a place that can be taken out, which leaves the set without the point
pub search_found : (s : List ℕ) (p : ℕ) (r : Result ℕ ℕ) → IsAscending s →
    MatchResult r (λ i. (i < length s) × (slice_index s i ≡ p))
    (λ i. (i ≤ length s) × ((k : ℕ) → k < i → slice_index s k < p)
    × ((k : ℕ) → i ≤ k → k < length s → p < slice_index s k)) →
    IfOk r (λ i. (i < length s) × (remove s i ≡ without_point p s))
search_found s p (Ok i) a h = (h.0, remove_is s p i a h.0 h.1)
search_found s p (Err i) a h = tt

-- an Err has a place at which the point can be put in, which gives the set with it
pub search_absent : (s : List ℕ) (p : ℕ) (r : Result ℕ ℕ) → MatchResult r (λ i. (i < length s) × (slice_index s i ≡ p))
    (λ i. (i ≤ length s) × ((k : ℕ) → k < i → slice_index s k < p)
    × ((k : ℕ) → i ≤ k → k < length s → p < slice_index s k)) →
    IfErr r (λ i. (i ≤ length s) × (insert s i p ≡ with_point p s))
search_absent s p (Ok i) h = tt
search_absent s p (Err i) h = (h.0, insert_is s p i (record { within = h.0; below = h.1; above = h.2 }))

-- ---- an edited list is ascending; t is the slice that was searched

-- where a point was taken out at its place
pub ascending_removed : (s t : List ℕ) (p i : ℕ) → t ≡ s → remove t i ≡ without_point p t → IsAscending s →
    IsAscending (remove s i)
ascending_removed s t p i e f a =
    subst (λ (u : List ℕ). IsAscending (remove u i)) e (subst IsAscending (sym f)
    (ascending_without p t (subst IsAscending (sym e) a)))

-- where it was put in
pub ascending_inserted : (s t : List ℕ) (p i : ℕ) → t ≡ s → insert t i p ≡ with_point p t → IsAscending s →
    IsAscending (insert s i p)
ascending_inserted s t p i e f a =
    subst (λ (u : List ℕ). IsAscending (insert u i p)) e (subst IsAscending (sym f)
    (ascending_with p t (subst IsAscending (sym e) a)))
