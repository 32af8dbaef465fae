-- What one look at a tie shows: the greatest point below the limit, where all from the limit on have the coefficient 0.
use Rattle.std.proofs.Common.{◌≡◌, ◌≢◌, ◌<◌, ◌≤◌, ◌⊎◌, inl, inr, ℕ, [], ◌∷◌, pos, sym, ◌∙◌, ap, arith, false, ◌<ℤ◌}
use Rattle.std.proofs.lemmas.Int.{ints}
use Rattle.whole_ring.specs.Signs.{below, at_zero, above}
use Rattle.whole_ring.proofs.Cited.{sign}
use Rattle.point_order.specs.Orientation.{orientation, is_flat}
use Rattle.point_order.specs.Sets.{AreFive, IsIn}
use Rattle.point_order.specs.Laws.{coefficient}
use Rattle.point_order.proofs.Cited.{coefficient_e, not_zero, one_of_five}

-- the last point keeps its coefficient, so it is below the limit
pub last_below : (a b c d e limit : ℕ) → AreFive a b c d e → is_flat a b c d ≡ false →
    ((q : ℕ) → limit ≤ q → coefficient a b c d e q ≡ pos 0) → e < limit
last_below a b c d e limit n f h =
    let o : limit ≤ e → ⊥ =
    λ k. not_zero (orientation a b c d) f (sym (coefficient_e a b c d e n) ∙ h e k) in grind (arith, o)

-- a point with a coefficient is one of the list
in_list : (a b c d e q : ℕ) → coefficient a b c d e q ≢ pos 0 → IsIn q (a ∷ b ∷ c ∷ d ∷ e ∷ [])
in_list a b c d e q n =
    elim (one_of_five a b c d e q n) [
      | inl x ↦ inl (sym x)
      | inr r ↦ elim r [
        | inl x ↦ inr (inl (sym x))
        | inr r2 ↦ elim r2 [
          | inl x ↦ inr (inr (inl (sym x)))
          | inr r3 ↦ elim r3 [ inl x ↦ inr (inr (inr (inl (sym x)))) | inr x ↦ inr (inr (inr (inr (inl (sym x))))) ]
        ]
      ]
    ]

-- those greater than the point that is looked at have the coefficient 0
pub passed_above : (a b c d e at limit : ℕ) → ((q : ℕ) → IsIn q (a ∷ b ∷ c ∷ d ∷ e ∷ []) → q < limit → q ≤ at) →
    ((q : ℕ) → limit ≤ q → coefficient a b c d e q ≡ pos 0) → (q : ℕ) → at < q → coefficient a b c d e q ≡ pos 0
passed_above a b c d e at limit most h q l =
    elim (sign (coefficient a b c d e q)) [
      | below p ↦ absurd (clash (λ z. not_below z p))
      | at_zero z ↦ z
      | above p ↦ absurd (clash (λ z. not_above z p))
    ]
  where
    not_below : coefficient a b c d e q ≡ pos 0 → coefficient a b c d e q <ℤ pos 0 → ⊥
    not_below z p = omega (arith, ints, z, p)

    not_above : coefficient a b c d e q ≡ pos 0 → pos 0 <ℤ coefficient a b c d e q → ⊥
    not_above z p = omega (arith, ints, z, p)

    clash : coefficient a b c d e q ≢ pos 0 → ⊥
    clash n =
        let k : q < limit → q ≤ at = most q (in_list a b c d e q n) in
        let j : limit ≤ q → ⊥ = λ m. n (h q m) in
        grind (arith, k, j)

-- and where it has the coefficient 0 too, so have those from it on
pub passed_from : (a b c d e at limit : ℕ) → ((q : ℕ) → IsIn q (a ∷ b ∷ c ∷ d ∷ e ∷ []) → q < limit → q ≤ at) →
    ((q : ℕ) → limit ≤ q → coefficient a b c d e q ≡ pos 0) → coefficient a b c d e at ≡ pos 0 → (q : ℕ) → at ≤ q →
    coefficient a b c d e q ≡ pos 0
passed_from a b c d e at limit most h z q l =
    elim (cases q at l) [
      | inl i ↦ ap (λ v. coefficient a b c d e v) i ∙ z
      | inr k ↦ passed_above a b c d e at limit most h q k
    ]
  where
    cases : (q at : ℕ) → at ≤ q → (q ≡ at) ⊎ (at < q)
    cases q at l = grind arith
