-- Ascending lists as sets.
use Rattle.std.proofs.Common.{◌≡◌, refl, sym, subst, ℕ, ◌<◌, List, [], ◌∷◌, ◌⊎◌, inl, inr, Bool, true, false, arith}
use Rattle.std.specs.Prelude.{nat_lt, ◌==◌}
use Rattle.std.proofs.lemmas.Bool.Decides.{nat_tests}
use Rattle.list_laws.proofs.Cited.{below_each, first_below, same_members}
use Rattle.point_order.specs.Sets.{IsIn, IsAscending, with_point, ascending}

-- ---- with a point

-- a point put into a list with q in front stands before q, is q, or goes into the rest
pub with_cases : (p q : ℕ) (s : List ℕ) → ((p < q) × (with_point p (q ∷ s) ≡ p ∷ q ∷ s))
    ⊎ ((p ≡ q) × (with_point p (q ∷ s) ≡ q ∷ s)) ⊎ ((q < p) × (with_point p (q ∷ s) ≡ q ∷ with_point p s))
with_cases p q s = by_tests (nat_lt p q) (p == q) refl refl
  where
    by_tests : (t u : Bool) → nat_lt p q ≡ t → (p == q) ≡ u → ((p < q) × (with_point p (q ∷ s) ≡ p ∷ q ∷ s))
        ⊎ ((p ≡ q) × (with_point p (q ∷ s) ≡ q ∷ s)) ⊎ ((q < p) × (with_point p (q ∷ s) ≡ q ∷ with_point p s))
    by_tests true u e f = inl (grind (arith, nat_tests), rw e refl)
    by_tests false true e f = inr (inl (grind (arith, nat_tests), rw (e, f) refl))
    by_tests false false e f = inr (inr (grind (arith, nat_tests), rw (e, f) refl))

-- a point of the list with p is p, or was there
pub in_with : (p q : ℕ) (s : List ℕ) → IsIn q (with_point p s) → (p ≡ q) ⊎ IsIn q s
in_with p q [] i = i
in_with p q (x ∷ s) i =
    elim (with_cases p x s) [
      | inl a ↦ subst (λ (v : List ℕ). IsIn q v) a.1 i
      | inr b ↦ elim b [
        | inl a ↦ inr (subst (λ (v : List ℕ). IsIn q v) a.1 i)
        | inr a ↦ elim (let j : IsIn q (x ∷ with_point p s) = subst (λ (v : List ℕ). IsIn q v) a.1 i in j) [
          | inl e ↦ inr (inl e)
          | inr j ↦ elim (in_with p q s j) [ inl e ↦ inl e | inr k ↦ inr (inr k) ]
        ]
      ]
    ]

-- p is there
pub in_with_new : (p : ℕ) (s : List ℕ) → IsIn p (with_point p s)
in_with_new p [] = inl refl
in_with_new p (x ∷ s) =
    elim (with_cases p x s) [
      | inl a ↦ subst (λ (v : List ℕ). IsIn p v) (sym a.1) (inl refl)
      | inr b ↦ elim b [
        | inl a ↦ subst (λ (v : List ℕ). IsIn p v) (sym a.1) (inl (sym a.0))
        | inr a ↦ subst (λ (v : List ℕ). IsIn p v) (sym a.1) (inr (in_with_new p s))
      ]
    ]

-- and what was there is there still
pub in_with_old : (p q : ℕ) (s : List ℕ) → IsIn q s → IsIn q (with_point p s)
in_with_old p q [] i = absurd i
in_with_old p q (x ∷ s) i =
    elim (with_cases p x s) [
      | inl a ↦ subst (λ (v : List ℕ). IsIn q v) (sym a.1) (inr i)
      | inr b ↦ elim b [
        | inl a ↦ subst (λ (v : List ℕ). IsIn q v) (sym a.1) i
        | inr a ↦ subst (λ (v : List ℕ). IsIn q v) (sym a.1) (elim i [
          | inl e ↦ inl e
          | inr j ↦ inr (in_with_old p q s j)
        ])
      ]
    ]

-- an ascending list with a point ascends
pub ascending_with : (p : ℕ) (s : List ℕ) → IsAscending s → IsAscending (with_point p s)
ascending_with p [] h = (tt, tt)
ascending_with p (x ∷ s) h =
    elim (with_cases p x s) [
      | inl a ↦ subst IsAscending (sym a.1) (a.0, h)
      | inr b ↦ elim b [
        | inl a ↦ subst IsAscending (sym a.1) h
        | inr a ↦ subst IsAscending (sym a.1) (
          first_below x (with_point p s) (λ y i. elim (in_with p y s i) [
            | inl e ↦ omega (arith, a.0, e)
            | inr j ↦ below_each x s h.0 h.1 y j
          ]),
          ascending_with p s h.1,
        )
      ]
    ]

-- ---- put in order

-- a list put in order ascends
pub ascending_ascending : (ps : List ℕ) → IsAscending (ascending ps)
ascending_ascending [] = tt
ascending_ascending (p ∷ ps) = ascending_with p (ascending ps) (ascending_ascending ps)

-- what is in it was in the list
pub in_ascending : (ps : List ℕ) (p : ℕ) → IsIn p (ascending ps) → IsIn p ps
in_ascending [] p i = i
in_ascending (q ∷ ps) p i = elim (in_with q p (ascending ps) i) [ inl e ↦ inl e | inr j ↦ inr (in_ascending ps p j) ]

-- and what was in the list is in it
pub in_ascending_from : (ps : List ℕ) (p : ℕ) → IsIn p ps → IsIn p (ascending ps)
in_ascending_from [] p i = i
in_ascending_from (q ∷ ps) p i =
    elim i [
      | inl e ↦ subst (λ (v : ℕ). IsIn v (with_point q (ascending ps))) e (in_with_new q (ascending ps))
      | inr j ↦ in_with_old q p (ascending ps) (in_ascending_from ps p j)
    ]

-- what has the members of a list and is ascending is that list in order
pub ascending_is : (xs ps : List ℕ) → IsAscending xs → ((p : ℕ) → IsIn p xs → IsIn p ps) →
    ((p : ℕ) → IsIn p ps → IsIn p xs) → xs ≡ ascending ps
ascending_is xs ps h f g =
    same_members xs (ascending ps) h (ascending_ascending ps) (λ p i. in_ascending_from ps p (f p i))
    (λ p i. g p (in_ascending ps p i))

-- so an ascending list put in order is itself
pub ascending_self : (s : List ℕ) → IsAscending s → ascending s ≡ s
ascending_self s h = sym (ascending_is s s h (λ p i. i) (λ p i. i))
