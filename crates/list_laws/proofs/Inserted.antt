-- Lists to which keys are inserted in order.
use Rattle.std.specs.BTreeSet.{insert_key}
use Rattle.std.specs.Cmp.{IsTotalOrder}
use Rattle.std.specs.List.{AllByRecursion, fold}
use Rattle.std.specs.List.Sorted.{IsStrictlySortedBy}
use Rattle.std.specs.Ordering.{match_ordering, ordering_reverse}
use Rattle.std.specs.declared.cmp.Ordering.{Ordering}
use Rattle.std.specs.declared.cmp.Ordering.TheVariants.{Equal, Greater, Less}
use Rattle.std.proofs.Common.{List, [], ap, inl, inr, refl, subst, sym, ◌∙◌, ◌∷◌, ◌≡◌, ◌⊎◌}
use Rattle.list_laws.specs.Lists.{IsIn}

-- what is below the first is below the others
pub all_behind : {X : Type 0} (cmp : X → X → Ordering) (o : IsTotalOrder cmp) (x y : X) (l : List X) → cmp x y ≡ Less →
    AllByRecursion (λ z. cmp y z ≡ Less) l → AllByRecursion (λ z. cmp x z ≡ Less) l
all_behind cmp o x y [] e a = tt
all_behind cmp o x y (z ∷ l) e a = (o.trans x y z e a.0, all_behind cmp o x y l e a.1)

-- with one more in its place
pub all_insert : {X : Type 0} (P : X → Type 0) (cmp : X → X → Ordering) (l : List X) (x : X) → AllByRecursion P l →
    P x → AllByRecursion P (insert_key cmp l x)
all_insert P cmp [] x a p = (p, tt)
all_insert {X} P cmp (y ∷ l) x a p = by_order (all_insert P cmp l x a.1 p) (cmp x y)
  where
    -- before the first, at it or behind it
    by_order : AllByRecursion P (insert_key cmp l x) → (o : Ordering) →
        AllByRecursion P (match_ordering o (x ∷ y ∷ l) (y ∷ l) (y ∷ insert_key cmp l x))
    by_order r Less = (p, a)
    by_order r Equal = a
    by_order r Greater = (a.0, r)

-- a list in order stays so
pub sorted_insert : {X : Type 0} (cmp : X → X → Ordering) (o : IsTotalOrder cmp) (l : List X) (x : X) →
    IsStrictlySortedBy cmp l → IsStrictlySortedBy cmp (insert_key cmp l x)
unfolding IsStrictlySortedBy
sorted_insert cmp o [] x s = (tt, tt)
sorted_insert {X} cmp o (y ∷ l) x s = by_order (sorted_insert cmp o l x s.1) (cmp x y) refl
  where
    -- before the first, at it or behind it
    by_order : IsStrictlySortedBy cmp (insert_key cmp l x) → (r : Ordering) → cmp x y ≡ r →
        IsStrictlySortedBy cmp (match_ordering r (x ∷ y ∷ l) (y ∷ l) (y ∷ insert_key cmp l x))
    by_order t Less e = ((e, all_behind cmp o x y l e s.0), s)
    by_order t Equal e = s
    by_order t Greater e = (all_insert (λ z. cmp y z ≡ Less) cmp l x s.0 (o.antisymm y x ∙ ap ordering_reverse e), t)

-- those that were there and the new one
pub in_insert : {X : Type 0} (cmp : X → X → Ordering) (p : X) (l : List X) (x : X) → IsIn p (insert_key cmp l x) →
    (x ≡ p) ⊎ IsIn p l
in_insert cmp p [] x i = i
in_insert {X} cmp p (y ∷ l) x i = by_order (in_insert cmp p l x) (cmp x y) i
  where
    -- before the first, at it or behind it
    by_order : (IsIn p (insert_key cmp l x) → (x ≡ p) ⊎ IsIn p l) → (r : Ordering) →
        IsIn p (match_ordering r (x ∷ y ∷ l) (y ∷ l) (y ∷ insert_key cmp l x)) → (x ≡ p) ⊎ IsIn p (y ∷ l)
    by_order f Less j = j
    by_order f Equal j = inr j
    by_order f Greater j = elim j [ inl e ↦ inr (inl e) | inr k ↦ elim (f k) [ inl e ↦ inl e | inr m ↦ inr (inr m) ] ]

-- those that were there stay
pub insert_stays : {X : Type 0} (cmp : X → X → Ordering) (p : X) (l : List X) (x : X) → IsIn p l →
    IsIn p (insert_key cmp l x)
insert_stays cmp p [] x i = absurd i
insert_stays {X} cmp p (y ∷ l) x i = by_order (insert_stays cmp p l x) (cmp x y)
  where
    -- before the first, at it or behind it
    by_order : (IsIn p l → IsIn p (insert_key cmp l x)) → (r : Ordering) →
        IsIn p (match_ordering r (x ∷ y ∷ l) (y ∷ l) (y ∷ insert_key cmp l x))
    by_order f Less = inr i
    by_order f Equal = i
    by_order f Greater = elim i [ inl e ↦ inl e | inr k ↦ inr (f k) ]

-- the new one is there, where only equal elements tie
pub insert_comes : {X : Type 0} (cmp : X → X → Ordering) (same : (x y : X) → cmp x y ≡ Equal → x ≡ y) (l : List X)
    (x : X) → IsIn x (insert_key cmp l x)
insert_comes cmp same [] x = inl refl
insert_comes {X} cmp same (y ∷ l) x = by_order (insert_comes cmp same l x) (cmp x y) refl
  where
    -- before the first, at it or behind it
    by_order : IsIn x (insert_key cmp l x) → (r : Ordering) → cmp x y ≡ r →
        IsIn x (match_ordering r (x ∷ y ∷ l) (y ∷ l) (y ∷ insert_key cmp l x))
    by_order f Less e = inl refl
    by_order f Equal e = inl (sym (same x y e))
    by_order f Greater e = inr f

-- in order
pub sorted_fold : {X : Type 0} (cmp : X → X → Ordering) (o : IsTotalOrder cmp) (l xs : List X) →
    IsStrictlySortedBy cmp l → IsStrictlySortedBy cmp (fold (insert_key cmp) l xs)
sorted_fold cmp o l [] s = s
sorted_fold cmp o l (x ∷ xs) s = sorted_fold cmp o (insert_key cmp l x) xs (sorted_insert cmp o l x s)

-- no others
pub in_fold : {X : Type 0} (cmp : X → X → Ordering) (p : X) (l xs : List X) → IsIn p (fold (insert_key cmp) l xs) →
    IsIn p l ⊎ IsIn p xs
in_fold cmp p l [] i = inl i
in_fold cmp p l (x ∷ xs) i = elim (in_fold cmp p (insert_key cmp l x) xs i) [
  | inl j ↦ elim (in_insert cmp p l x j) [ inl e ↦ inr (inl e) | inr k ↦ inl k ]
  | inr j ↦ inr (inr j)
]

-- those that were there
pub fold_stays : {X : Type 0} (cmp : X → X → Ordering) (p : X) (l xs : List X) → IsIn p l →
    IsIn p (fold (insert_key cmp) l xs)
fold_stays cmp p l [] i = i
fold_stays cmp p l (x ∷ xs) i = fold_stays cmp p (insert_key cmp l x) xs (insert_stays cmp p l x i)

-- and the new ones
pub fold_comes : {X : Type 0} (cmp : X → X → Ordering) (same : (x y : X) → cmp x y ≡ Equal → x ≡ y) (p : X)
    (l xs : List X) → IsIn p xs → IsIn p (fold (insert_key cmp) l xs)
fold_comes cmp same p l [] i = absurd i
fold_comes cmp same p l (x ∷ xs) i = elim i [
  | inl e ↦ fold_stays cmp p (insert_key cmp l x) xs (subst (λ v. IsIn v (insert_key cmp l x)) e
      (insert_comes cmp same l x))
  | inr j ↦ fold_comes cmp same p (insert_key cmp l x) xs j
]
