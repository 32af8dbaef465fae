-- Ascending lists of numbers.
use Rattle.std.specs.List.{AllByRecursion, dedup, filter}
use Rattle.std.specs.List.Sorted.{IsPermutation, IsSorted, IsStrictlyIncreasing, IsStrictlySortedBy}
use Rattle.std.specs.Ordering.{nat_cmp}
use Rattle.std.specs.Prelude.{Bool, List, [], length, slice_index, suc, zero, ℕ, ◌++◌, ◌+◌, ◌<◌, ◌∷◌, ◌≡◌, ◌≤◌}
use Rattle.std.specs.declared.cmp.Ordering.TheVariants.{Equal, Greater, Less}
use Rattle.std.proofs.Common.{arith, eqb, get_or, inl, inr, refl, subst, sym, take, ◌∙◌}
use Rattle.std.proofs.lemmas.List.Kept.{Contains-dedup_nat, Contains-from_dedup}
use Rattle.std.proofs.lemmas.List.Sorted.{Contains-permutation, IsPermutation-sym}
use Rattle.std.proofs.lemmas.Map.Keys.{IsStrictlyIncreasing-dedup}
use Rattle.list_laws.specs.Lists.{IsAscending, IsBelowFirst, IsIn}
use Rattle.list_laws.proofs.Filters.{filter_is, filtered_from, filtered_true}
use Rattle.list_laws.proofs.Members.{at_in, contains_in, from_append, in_contained}
use Rattle.list_laws.proofs.Numbers.{ordered}
use Rattle.list_laws.proofs.Places.{index_in}

-- what is below the first of an ascending list is below each
pub below_each : (x : ℕ) (s : List ℕ) → IsBelowFirst x s → IsAscending s → (y : ℕ) → IsIn y s → x < y
below_each x [] h k y i = absurd i
below_each x (z ∷ s) h k y i =
    elim i [
      | inl e ↦ omega (arith, h, e)
      | inr j ↦ let l : z < y = below_each z s k.0 k.1 y j in omega (arith, h, l)
    ]

-- what is below each is below the first
pub first_below : (x : ℕ) (s : List ℕ) → ((y : ℕ) → IsIn y s → x < y) → IsBelowFirst x s
first_below x [] f = tt
first_below x (y ∷ s) f = f y (inl refl)

-- ascending lists of the same members are one list
pub same_members : (xs ys : List ℕ) → IsAscending xs → IsAscending ys → ((p : ℕ) → IsIn p xs → IsIn p ys) →
    ((p : ℕ) → IsIn p ys → IsIn p xs) → xs ≡ ys
same_members [] [] h k f g = refl
same_members [] (y ∷ ys) h k f g = absurd (g y (inl refl))
same_members (x ∷ xs) [] h k f g = absurd (f x (inl refl))
same_members (x ∷ xs) (y ∷ ys) h k f g =
    let e : x ≡ y =
    elim (f x (inl refl)) [
      | inl a ↦ sym a
      | inr i ↦ elim (g y (inl refl)) [
        | inl b ↦ b
        | inr j ↦ let p : y < x =
            below_each y ys k.0 k.1 x i in let q : x < y = below_each x xs h.0 h.1 y j in absurd (omega arith)
      ]
    ] in
    let t : xs ≡ ys =
    same_members xs ys h.1 k.1
    (λ p i. elim (f p (inr i)) [
      | inl a ↦ let l : x < p = below_each x xs h.0 h.1 p i in absurd (omega arith)
      | inr j ↦ j
    ])
    (λ p i. elim (g p (inr i)) [
      | inl a ↦ let l : y < p = below_each y ys k.0 k.1 p i in absurd (omega arith)
      | inr j ↦ j
    ]) in
    cc

-- an ascending list rises from place to place
pub rises : (s : List ℕ) (i j d : ℕ) → IsAscending s → i < j → j < length s → get_or s i d < get_or s j d
rises [] i j d h l m = absurd (omega (arith, m))
rises (x ∷ s) zero zero d h l m = absurd (omega (arith, l))
rises (x ∷ s) zero (suc j) d h l m = below_each x s h.0 h.1 (get_or s j d) (at_in s j d (omega (arith, m)))
rises (x ∷ s) (suc i) zero d h l m = absurd (omega (arith, l))
rises (x ∷ s) (suc i) (suc j) d h l m = rises s i j d h.1 (omega (arith, l)) (omega (arith, m))

-- an ascending list rises from place to place
pub climbs : (s : List ℕ) → IsAscending s → (i j : ℕ) → i ≤ j → j < length s → slice_index s i ≤ slice_index s j
climbs [] h i j l m = absurd (omega arith)
climbs (x ∷ s) h zero zero l m = omega arith
climbs (x ∷ s) h zero (suc j) l m =
    let b : x < slice_index s j = below_each x s h.0 h.1 (slice_index s j) (index_in s j (omega arith)) in omega arith
climbs (x ∷ s) h (suc i) zero l m = absurd (omega arith)
climbs (x ∷ s) h (suc i) (suc j) l m = climbs s h.1 i j (omega arith) (omega arith)

-- a filtered list is ascending
pub filtered_ascending : (p : ℕ → Bool) (l : List ℕ) → IsAscending l → IsAscending (filter p l)
filtered_ascending p [] a = tt
filtered_ascending p (x ∷ l) a = elim (filter_is p x l) [
  | inl f ↦ subst (λ (v : List ℕ). IsAscending v) (sym f.1) (
    first_below x (filter p l)
        (λ y m. below_each x l a.0 a.1 y (filtered_from p l y m).0),
    filtered_ascending p l a.1,
  )
  | inr f ↦ subst (λ (v : List ℕ). IsAscending v) (sym f.1) (filtered_ascending p l a.1)
]

-- each number below the next
pub ascending_by : (l : List ℕ) → IsStrictlyIncreasing l → IsAscending l
ascending_by [] s = tt
ascending_by (x ∷ []) s = (tt, tt)
ascending_by (x ∷ y ∷ l) s = (
  s 0 (omega arith),
  ascending_by (y ∷ l) (λ k h. subst (λ n. slice_index (x ∷ y ∷ l) (suc k) < slice_index
      (x ∷ y ∷ l) n) (more k) (s (suc k) (omega (arith, h)))),
)
  where
    more : (k : ℕ) → suc k + 1 ≡ suc (k + 1)
    more k = omega arith

-- sorted, and each once, numbers ascend
pub numbers_ascend : (sorted deduped : List ℕ) → IsSorted nat_cmp sorted → deduped ≡ dedup eqb sorted →
    IsAscending deduped
numbers_ascend sorted deduped s e = rw e (ascending_by (dedup eqb sorted) (IsStrictlyIncreasing-dedup sorted s))

-- and are the same
pub numbers_same : (l sorted deduped : List ℕ) → IsPermutation l sorted → deduped ≡ dedup eqb sorted → (n : ℕ) →
    (IsIn n deduped → IsIn n l) × (IsIn n l → IsIn n deduped)
numbers_same l sorted deduped p d n = (
  λ i. in_contained l n (Contains-permutation sorted l n (IsPermutation-sym l sorted p)
      (Contains-from_dedup eqb sorted n (contains_in (dedup eqb sorted) n (subst (IsIn n) d i)))),
  λ i. subst (IsIn n) (sym d) (in_contained (dedup eqb sorted) n
      (Contains-dedup_nat sorted n (Contains-permutation l sorted n p (contains_in l n i)))),
)

-- one more number behind those that ascend
pub ascend_more : (l m : List ℕ) (x : ℕ) → m ≡ l ++ x ∷ [] → IsAscending l → ((y : ℕ) → IsIn y l → y < x) →
    IsAscending m
ascend_more l m x e a f = subst IsAscending (sym e) (go l a f)
  where
    go : (l : List ℕ) → IsAscending l → ((y : ℕ) → IsIn y l → y < x) → IsAscending (l ++ x ∷ [])
    go [] a f = (tt, tt)
    go (z ∷ l) a f = (
      first_below z (l ++ x ∷ []) (λ y i. elim (from_append y l (x ∷ []) i) [
        | inl k ↦ below_each z l a.0 a.1 y k
        | inr k ↦ elim k [ inl q ↦ subst (λ n. z < n) q (f z (inl refl)) | inr n ↦ absurd n ]
      ]),
      go l a.1 (λ y i. f y (inr i)),
    )

-- the first of numbers that ascend do
pub ascend_first : (l : List ℕ) (n : ℕ) → IsAscending l → IsAscending (take n l)
ascend_first [] zero a = tt
ascend_first [] (suc n) a = tt
ascend_first (x ∷ l) zero a = tt
ascend_first (x ∷ l) (suc n) a =
    (first_below x (take n l) (λ y i. below_each x l a.0 a.1 y (in_first l n y i)), ascend_first l n a.1)
  where
    in_first : (l : List ℕ) (n y : ℕ) → IsIn y (take n l) → IsIn y l
    in_first [] zero y i = i
    in_first [] (suc n) y i = i
    in_first (x ∷ l) zero y i = absurd i
    in_first (x ∷ l) (suc n) y (inl e) = inl e
    in_first (x ∷ l) (suc n) y (inr i) = inr (in_first l n y i)

-- a list in order ascends
pub ascending_sorted : (l : List ℕ) → IsStrictlySortedBy nat_cmp l → IsAscending l
unfolding IsStrictlySortedBy
ascending_sorted [] s = tt
ascending_sorted (x ∷ l) s = (first_of l s.0, ascending_sorted l s.1)
  where
    -- the first is below the next
    first_of : (l : List ℕ) → AllByRecursion (λ y. nat_cmp x y ≡ Less) l → IsBelowFirst x l
    first_of [] a = tt
    first_of (y ∷ l) a = elim (ordered x y) [
      | inl l ↦ l.0
      | inr r ↦ elim r [
        | inl l ↦ (let n : Equal ≡ Less = sym l.1 ∙ a.0 in cc)
        | inr l ↦ (let n : Greater ≡ Less = sym l.1 ∙ a.0 in cc)
      ]
    ]

-- two tests in turn
pub filter_swap : (t u : ℕ → Bool) (s : List ℕ) → IsAscending s → filter u (filter t s) ≡ filter t (filter u s)
filter_swap t u s a =
    same_members (filter u (filter t s)) (filter t (filter u s))
    (filtered_ascending u (filter t s) (filtered_ascending t s a))
    (filtered_ascending t (filter u s) (filtered_ascending u s a))
    (λ q i. (let r = filtered_from u (filter t s) q i in let k = filtered_from t s q r.0 in
    filtered_true t (filter u s) q (filtered_true u s q k.0 r.1) k.1))
    (λ q i. (let r = filtered_from t (filter u s) q i in let k = filtered_from u s q r.0 in
    filtered_true u (filter t s) q (filtered_true t s q k.0 r.1) k.1))
