-- Tests of members: filters, all, any, and the first that is found.
use Rattle.std.specs.List.{filter, find, list_all, list_any}
use Rattle.std.specs.Prelude.{Bool, List, None, Some, [], cond, false, map, true, ℕ, ◌&&◌, ◌∷◌, ◌≡◌, ◌⊎◌}
use Rattle.std.proofs.Common.{ap, inl, inr, refl, subst, sym, ◌∙◌}
use Rattle.list_laws.specs.Lists.{IsIn}
use Rattle.list_laws.proofs.Booleans.{both_true, first_true, left_true, not_both, one_true, right_true, second_true}
use Rattle.list_laws.proofs.Parity.{look}

-- a test of all members passes at each
pub all_from : {X : Type 0} (p : X → Bool) (s : List X) → list_all p s ≡ true → (e : X) → IsIn e s → p e ≡ true
all_from p [] t e m = absurd m
all_from p (x ∷ s) t e m = elim m [
  | inl q ↦ subst (λ v. p v ≡ true) q (first_true (p x) (list_all p s) t)
  | inr r ↦ all_from p s (second_true (p x) (list_all p s) t) e r
]

-- and passes where it passes at each
pub all_true : {X : Type 0} (p : X → Bool) (s : List X) → ((e : X) → IsIn e s → p e ≡ true) → list_all p s ≡ true
all_true p [] f = refl
all_true p (x ∷ s) f = both_true (p x) (list_all p s) (f x (inl refl)) (all_true p s (λ e m. f e (inr m)))

-- a test of some member passes at one
pub any_from : {X : Type 0} (p : X → Bool) (s : List X) → list_any p s ≡ true → (e : X) × IsIn e s × (p e ≡ true)
any_from p [] t = cc
any_from p (x ∷ s) t = elim (one_true (p x) (list_any p s) t) [
  | inl e ↦ (x, inl refl, e)
  | inr e ↦ (let r = any_from p s e in (r.0, inr r.1, r.2))
]

-- and passes where it passes at one
pub any_true : {X : Type 0} (p : X → Bool) (s : List X) (e : X) → IsIn e s → p e ≡ true → list_any p s ≡ true
any_true p [] e m t = absurd m
any_true p (x ∷ s) e m t = elim m [
  | inl q ↦ left_true (p x) (list_any p s) (subst (λ v. p v ≡ true) (sym q) t)
  | inr r ↦ right_true (p x) (list_any p s) (any_true p s e r t)
]

-- what a search finds is a member that passes
pub record IsFound {X : Type 0} (p : X → Bool) (s : List X) : Type 0 where
  pub at : X
  pub is : find p s ≡ Some at
  pub has : IsIn at s
  pub holds : p at ≡ true

-- a search finds where some member passes
pub found_from : {X : Type 0} (p : X → Bool) (s : List X) (e : X) → IsIn e s → p e ≡ true → IsFound p s
found_from p [] e m t = absurd m
found_from {X} p (x ∷ s) e m t = by_test (p x) refl (λ r. found_from p s e r t)
  where
    -- at the first, or further on
    by_test : (b : Bool) → p x ≡ b → (IsIn e s → IsFound p s) → IsFound p (x ∷ s)
    by_test true f g = record { at = x; is = rw f refl; has = inl refl; holds = f }
    by_test false f g = elim m [
      | inl q ↦ absurd (not_both (p x) (subst (λ v. p v ≡ true) (sym q) t) f)
      | inr r ↦ (
          let k = g r in
          record { at = k.at; is = rw f k.is; has = inr k.has; holds = k.holds })
    ]

-- a search finds none, or a member that passes
pub searched : {X : Type 0} (p : X → Bool) (s : List X) → (find p s ≡ None) ⊎ IsFound p s
searched p [] = inl refl
searched {X} p (x ∷ s) = by_test (p x) refl (searched p s)
  where
    -- at the first, or further on
    by_test : (b : Bool) → p x ≡ b → (find p s ≡ None) ⊎ IsFound p s → (find p (x ∷ s) ≡ None) ⊎ IsFound p (x ∷ s)
    by_test true f g = inr (record { at = x; is = rw f refl; has = inl refl; holds = f })
    by_test false f g = elim g [
      | inl n ↦ inl (rw f n)
      | inr k ↦ inr (record { at = k.at; is = rw f k.is; has = inr k.has; holds = k.holds })
    ]

-- the first member is kept, or not
pub filter_is : {X : Type 0} (p : X → Bool) (x : X) (s : List X) → ((p x ≡ true) × (filter p (x ∷ s) ≡ x ∷ filter p s))
    ⊎ ((p x ≡ false) × (filter p (x ∷ s) ≡ filter p s))
filter_is {X} p x s = by_test (p x) refl
  where
    -- either way
    by_test : (b : Bool) → p x ≡ b → ((p x ≡ true) × (filter p (x ∷ s) ≡ x ∷ filter p s))
        ⊎ ((p x ≡ false) × (filter p (x ∷ s) ≡ filter p s))
    by_test true f = inl (f, rw f refl)
    by_test false f = inr (f, rw f refl)

-- a member of a filtered list
pub filtered_from : {X : Type 0} (p : X → Bool) (s : List X) (e : X) → IsIn e (filter p s) → IsIn e s × (p e ≡ true)
filtered_from p [] e m = absurd m
filtered_from {X} p (x ∷ s) e m = elim (filter_is p x s) [
  | inl f ↦ elim (kept f.1 m) [
    | inl q ↦ (inl q, subst (λ v. p v ≡ true) q f.0)
    | inr r ↦ (let k = filtered_from p s e r in (inr k.0, k.1))
  ]
  | inr f ↦ (let k = filtered_from p s e (subst (λ (v : List X). IsIn e v) f.1 m) in (inr k.0, k.1))
]
  where
    -- in the list with its first
    kept : filter p (x ∷ s) ≡ x ∷ filter p s → IsIn e (filter p (x ∷ s)) → (x ≡ e) ⊎ IsIn e (filter p s)
    kept f m = subst (λ (v : List X). IsIn e v) f m

-- and back
pub filtered_true : {X : Type 0} (p : X → Bool) (s : List X) (e : X) → IsIn e s → p e ≡ true → IsIn e (filter p s)
filtered_true p [] e m t = absurd m
filtered_true {X} p (x ∷ s) e m t = elim (filter_is p x s) [
  | inl f ↦ subst (λ (v : List X). IsIn e v) (sym f.1) (elim m [
    | inl q ↦ inl q
    | inr r ↦ inr (filtered_true p s e r t)
  ])
  | inr f ↦ subst (λ (v : List X). IsIn e v) (sym f.1) (elim m [
    | inl q ↦ absurd (not_both (p x) (subst (λ v. p v ≡ true) (sym q) t) f.0)
    | inr r ↦ filtered_true p s e r t
  ])
]

-- two tests in turn are one that needs both
pub filter_and : {X : Type 0} (p q r : X → Bool) (l : List X) → ((x : X) → (q x && p x) ≡ r x) →
    filter p (filter q l) ≡ filter r l
filter_and p q r [] f = refl
filter_and {X} p q r (x ∷ l) f = by (q x) (r x) (f x) (filter_and p q r l f)
  where
    by : (a c : Bool) → (a && p x) ≡ c → filter p (filter q l) ≡ filter r l →
        filter p (cond a (x ∷ filter q l) (filter q l)) ≡ cond c (x ∷ filter r l) (filter r l)
    by true c e r' =
        ap (λ b. cond b (x ∷ filter p (filter q l)) (filter p (filter q l))) e
        ∙ ap (λ (m : List X). cond c (x ∷ m) m) r'
    by false c e r' = r' ∙ ap (λ b. cond b (x ∷ filter r l) (filter r l)) e

-- a test that each passes keeps the list
pub all_pass : {X : Type 0} (p : X → Bool) (l : List X) → ((x : X) → p x ≡ true) → filter p l ≡ l
all_pass p [] f = refl
all_pass {X} p (x ∷ l) f = rw (f x) (ap (λ (m : List X). x ∷ m) (all_pass p l f))

-- and one that none passes keeps nothing
pub none_pass : {X : Type 0} (p : X → Bool) (l : List X) → ((x : X) → p x ≡ false) → filter p l ≡ []
none_pass p [] f = refl
none_pass p (x ∷ l) f = rw (f x) (none_pass p l f)

-- tests that agree on the members of a list filter it alike
pub same_filter : {X : Type 0} (p q : X → Bool) (l : List X) → ((x : X) → IsIn x l → p x ≡ q x) →
    filter p l ≡ filter q l
same_filter p q [] f = refl
same_filter p q (x ∷ l) f = rw (f x (inl refl), same_filter p q l (λ y m. f y (inr m))) refl

-- a test after a weaker one is the test alone
pub filter_twice : {X : Type 0} (p q : X → Bool) (l : List X) → ((x : X) → p x ≡ true → q x ≡ true) →
    filter p (filter q l) ≡ filter p l
filter_twice p q [] f = refl
filter_twice p q (x ∷ l) f = elim (filter_is q x l) [
  | inl k ↦ ap (filter p) k.1 ∙ ap (λ m. cond (p x) (x ∷ m) m) (filter_twice p q l f)
  | inr k ↦ elim (filter_is p x l) [
    | inl m ↦ (let t = f x m.0 in absurd (cc (t, k.0)))
    | inr m ↦ ap (filter p) k.1 ∙ filter_twice p q l f ∙ sym m.1
  ]
]

-- a test that no element passes
pub any_none : (t : ℕ → Bool) (s : List ℕ) → ((x : ℕ) → IsIn x s → t x ≡ false) → list_any t s ≡ false
any_none t [] f = refl
any_none t (y ∷ s) f = rw (f y (inl refl)) (any_none t s (λ x i. f x (inr i)))

-- a member of a filtered list is one of the list
pub in_filtered : {X : Type 0} (t : X → Bool) (xs : List X) (y : X) → IsIn y (filter t xs) → IsIn y xs
in_filtered t xs y m = (filtered_from t xs y m).0

-- and passes the test
pub passes : {X : Type 0} (t : X → Bool) (xs : List X) (y : X) → IsIn y (filter t xs) → t y ≡ true
passes t xs y m = (filtered_from t xs y m).1

-- two that pass together
pub record HasPair {X : Type 0} (f : X → X → Bool) : Type 0 where
  pub a : X
  pub b : X
  pub holds : f a b ≡ true

-- a member of u and one of v that pass, or none do
pub search_pair : {X : Type 0} (f : X → X → Bool) (u v : List X) →
    HasPair f ⊎ ((a b : X) → IsIn a u → IsIn b v → f a b ≡ false)
search_pair f [] v = inr (λ a b m. absurd m)
search_pair f (x ∷ u) v = elim (look (f x) v) [
  | inr s ↦ inl (record { a = x; b = s.at; holds = s.holds })
  | inl n ↦ elim (search_pair f u v) [
    | inl s ↦ inl s
    | inr k ↦ inr (λ a b m i. elim m [ inl e ↦ sym (ap (λ z. f z b) e) ∙ n b i | inr r ↦ k a b r i ])
  ]
]
