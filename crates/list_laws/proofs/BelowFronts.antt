-- The front of an ascending list: the numbers below one.
use Rattle.std.proofs.Common.{◌≡◌, refl, subst, ℕ, zero, suc, ◌<◌, ◌≤◌, List, [], ◌∷◌, Bool, true, false, length}
use Rattle.std.proofs.Common.{get_or, arith, inl, inr}
use Rattle.std.specs.Prelude.{nat_lt}
use Rattle.std.specs.List.{prefix_len, AllWithin}
use Rattle.std.specs.List.Sorted.{IsPartitionedBy}
use Rattle.std.proofs.lemmas.Bool.{cases_lt}
use Rattle.std.proofs.lemmas.Bool.Decides.{nat_tests}
use Rattle.list_laws.specs.Lists.{IsAscending}
use Rattle.list_laws.proofs.Ascending.{rises}

-- where the first i pass and the others fail, the front that passes is i long
pub prefix_is : {X : Type 0} (p : X → Bool) (xs : List X) (i : ℕ) → i ≤ length xs →
    AllWithin (λ y. p y ≡ true) xs 0 i → AllWithin (λ y. p y ≡ false) xs i (length xs) → prefix_len p xs ≡ i
prefix_is p [] i h t f = omega (arith, h)
prefix_is p (x ∷ xs) zero h t f =
    let e : p x ≡ false = f 0 x (omega arith) (omega arith) in
    rw e refl
prefix_is p (x ∷ xs) (suc i) h t f =
    let e : p x ≡ true = t 0 x (omega arith) (omega arith) in
    let r : prefix_len p xs ≡ i =
    prefix_is p xs i (omega (arith, h)) (λ k d l m. t (suc k) d (omega arith) (omega (arith, m)))
    (λ k d l m. f (suc k) d (omega (arith, l)) (omega (arith, m))) in
    rw e (omega (arith, r))

-- the numbers below p are at the front
pub below_front : (s : List ℕ) (p : ℕ) → IsAscending s → IsPartitionedBy (λ q. nat_lt q p) s
below_front s p h i j d l m t =
    let u : get_or s j d < p = grind (arith, nat_tests) in
    let v : get_or s i d ≤ get_or s j d = no_greater i j l m in
    grind (arith, nat_tests)
  where
    no_greater : (a b : ℕ) → a ≤ b → b < length s → get_or s a d ≤ get_or s b d
    no_greater a b k m =
        elim (cases_lt a b) [
          | inl u ↦ omega (arith, rises s a b d h u (omega (arith, m)))
          | inr u ↦ let e : a ≡ b = omega arith in subst (λ (v : ℕ). get_or s a d ≤ get_or s v d) e (omega arith)
        ]
