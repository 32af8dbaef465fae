-- A set of keys is an ascending list of points.
use Rattle.std.specs.Prelude.{◌≡◌, ℕ, Bool, true, false, List, [], ◌∷◌, ◌||◌, ◌==◌}
use Rattle.std.specs.declared.cmp.Ordering.{Ordering}
use Rattle.std.specs.Ordering.{is_eq, match_ordering, nat_cmp}
use Rattle.std.specs.List.{list_any}
use Rattle.std.specs.BTreeSet.{insert_key}
use Rattle.std.proofs.Common.{refl, sym, ◌∙◌, ap, inl, inr, arith}
use Rattle.std.proofs.lemmas.Bool.{ne_eqb}
use Rattle.list_laws.proofs.Cited.{among_from, below_each, eq_same, ordered}
use Rattle.point_order.specs.Sets.{IsIn, IsAscending, is_among, with_point}
use Rattle.point_order.proofs.Cited.{with_cases}
use Rattle.edit_history.specs.Edits.{after}
use Rattle.edit_history.specs.declared.history.Edit.TheVariants.{Add}

-- a key that is put in is a point that is put in
pub key_put : (p : ℕ) (s : List ℕ) → insert_key nat_cmp s p ≡ with_point p s
key_put p [] = refl
key_put p (x ∷ s) = elim (ordered p x) [
  | inl o ↦ by o.1 (elim (with_cases p x s) [
    | inl e ↦ sym e.1
    | inr r ↦ elim r [
      | inl e ↦ absurd (let l = o.0 in omega (arith, l, e.0))
      | inr e ↦ absurd (let l = o.0 in
          omega (arith, l, e.0))
    ]
  ])
  | inr k ↦ elim k [
    | inl o ↦ by o.1 (elim (with_cases p x s) [
      | inl e ↦ absurd (let l = o.0 in omega (arith, l, e.0))
      | inr r ↦ elim r
          [ inl e ↦ sym e.1 | inr e ↦ absurd (let l = o.0 in omega (arith, l, e.0)) ]
    ])
    | inr o ↦ by o.1 (elim (with_cases p x s) [
      | inl e ↦ absurd (let l = o.0 in omega (arith, l, e.0))
      | inr r ↦ elim r [
        | inl e ↦ absurd (let l = o.0 in omega (arith, l, e.0))
        | inr e ↦ ap (λ (t : List ℕ). x ∷ t) (key_put p s) ∙ sym
            e.1
      ]
    ])
  ]
]
  where
    by : {o : Ordering} → nat_cmp p x ≡ o → match_ordering o (p ∷ x ∷ s) (x ∷ s) (x ∷ insert_key nat_cmp s p) ≡
        with_point p (x ∷ s)
        → match_ordering (nat_cmp p x) (p ∷ x ∷ s) (x ∷ s) (x ∷ insert_key nat_cmp s p) ≡ with_point p (x ∷ s)
    by e f = ap (λ (o : Ordering). match_ordering o (p ∷ x ∷ s) (x ∷ s) (x ∷ insert_key nat_cmp s p)) e ∙ f

-- a key is there where the point is
pub key_there : (p : ℕ) (s : List ℕ) → list_any (λ k. is_eq (nat_cmp p k)) s ≡ is_among p s
key_there p [] = refl
key_there p (x ∷ s) = (elim (ordered p x) [
  | inl o ↦ by o.1 (ne_eqb x p (λ e. let l = o.0 in omega (arith, l, e)))
  | inr k ↦ elim k [
    | inl o ↦ by o.1 (rw o.0 (eq_same x))
    | inr o ↦ by o.1
        (ne_eqb x p (λ e. let l = o.0 in omega (arith, l, e)))
  ]
]) ∙ ap (λ (b : Bool). (x == p) || b) (key_there p s)
  where
    by : {o : Ordering} → nat_cmp p x ≡ o → (x == p) ≡ is_eq o → (is_eq (nat_cmp p x) || list_any
        (λ k. is_eq (nat_cmp p k)) s) ≡ ((x == p) || list_any (λ k. is_eq (nat_cmp p k)) s)
    by e f = rw (e, f) refl

-- a point of an ascending list that is put in changes nothing
with_again : (p : ℕ) (s : List ℕ) → IsAscending s → IsIn p s → with_point p s ≡ s
with_again p [] a i = absurd i
with_again p (x ∷ s) a i = elim (with_cases p x s) [
  | inl e ↦ absurd (elim i [
    | inl q ↦ omega (arith, e.0, q)
    | inr j ↦ let l =
        below_each x s a.0 a.1 p j in omega (arith, e.0, l)
  ])
  | inr r ↦ elim r [
    | inl e ↦ e.1
    | inr e ↦ e.1 ∙ ap (λ (t : List ℕ). x ∷ t)
        (with_again p s a.1 (elim i [ inl q ↦ absurd (omega (arith, e.0, q)) | inr j ↦ j ]))
  ]
]

-- the point that is added is put in
pub put_is_add : (p : ℕ) (s : List ℕ) → IsAscending s → with_point p s ≡ after s (Add p)
put_is_add p s a = by (is_among p s) refl
  where
    by : (b : Bool) → is_among p s ≡ b → with_point p s ≡ after s (Add p)
    by true e = rw e (with_again p s a (among_from p s e))
    by false e = rw e refl
