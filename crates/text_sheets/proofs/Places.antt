-- The place of a point in an ascending list.
use Rattle.std.proofs.Common.{◌≡◌, refl, subst, ℕ, zero, suc, ◌<◌, ◌≤◌, ◌-◌, List, [], ◌∷◌, true, false, length, get_or}
use Rattle.std.proofs.Common.{arith, inl, inr}
use Rattle.std.specs.Prelude.{nat_lt}
use Rattle.std.specs.List.{prefix_len, AllWithin}
use Rattle.std.proofs.lemmas.Bool.{cases_lt}
use Rattle.std.proofs.lemmas.Bool.Decides.{nat_tests}
use Rattle.list_laws.proofs.Cited.{default_free, prefix_is, rises}
use Rattle.point_order.specs.Sets.{IsAscending}
use Rattle.text_sheets.specs.Indices.{IsBetween}

-- in an ascending list a key belongs where the point before is below it and that at the place is not
pub place_between : (s : List ℕ) (p i : ℕ) → IsAscending s → IsBetween s p i i → prefix_len (λ q. nat_lt q p) s ≡ i
place_between s p i h b = prefix_is (λ q. nat_lt q p) s i b.inside before from
  where
    -- no point is above a later one
    later : (k j : ℕ) → k ≤ j → j < length s → get_or s k 0 ≤ get_or s j 0
    later k j l m =
        elim (cases_lt k j) [
          | inl u ↦ omega (arith, rises s k j 0 h u m)
          | inr u ↦ let e : k ≡ j = omega arith in subst (λ (v : ℕ). get_or s k 0 ≤ get_or s v 0) e (omega arith)
        ]

    before : AllWithin (λ q. nat_lt q p ≡ true) s 0 i
    before k d l m =
        elim b.below [
          | inl e ↦ absurd (omega (arith, e, m))
          | inr u ↦
              let v : get_or s k 0 ≤ get_or s (i - 1) 0 = later k (i - 1) (omega (arith, m)) (omega
              (arith, m, b.inside)) in
              let w : get_or s k d ≡ get_or s k 0 = default_free s k d 0 (omega (arith, m, b.inside)) in
              grind (arith, nat_tests)
        ]

    from : AllWithin (λ q. nat_lt q p ≡ false) s i (length s)
    from k d l m =
        elim b.above [
          | inl e ↦ absurd (omega (arith, e, l, m))
          | inr u ↦
              let v : get_or s i 0 ≤ get_or s k 0 = later i k l m in
              let w : get_or s k d ≡ get_or s k 0 = default_free s k d 0 m in
              grind (arith, nat_tests)
        ]

-- an item of a list at its place
pub own_item : {X : Type 0} (d : X) (xs : List X) (i : ℕ) → i < length xs → get_or xs i d ≡ get_or xs i (get_or xs i d)
own_item d [] i l = absurd (omega (arith, l))
own_item d (x ∷ xs) zero l = refl
own_item d (x ∷ xs) (suc i) l = own_item d xs i (omega (arith, l))

-- where a count tells the end, a place below it
pub below_end : (i n m : ℕ) → i < n → n ≡ m → i < m
below_end i n m l e = omega (arith, l, e)

-- where a count tells the end, a place past it
pub past_end : (i n m : ℕ) → n ≤ i → n ≡ m → m ≤ i
past_end i n m l e = omega (arith, l, e)
