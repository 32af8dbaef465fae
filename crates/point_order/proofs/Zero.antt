-- The test of a whole number against 0.
use Rattle.std.specs.Prelude.{false, pos, true, ℤ, ◌<ℤ◌, ◌≡◌}
use Rattle.std.proofs.Common.{arith, refl, subst, sym}
use Rattle.std.proofs.lemmas.Int.{ints}
use Rattle.whole_ring.specs.Signs.{above, at_zero, below}
use Rattle.whole_ring.proofs.Cited.{sign}
use Rattle.list_laws.proofs.Cited.{false_if, not_both}
use Rattle.point_order.specs.Orientation.{is_zero}

-- a number that is told to be 0
pub zero_from : (a : ℤ) → is_zero a ≡ true → a ≡ pos 0
zero_from a e = elim (sign a) [ below p ↦ absurd (low a p e) | at_zero z ↦ z | above p ↦ absurd (high a p e) ]
  where
    -- a negative number is not
    low : (a : ℤ) → a <ℤ pos 0 → is_zero a ≡ true → ⊥
    low a p e = grind (arith, ints)

    -- a positive number is not
    high : (a : ℤ) → pos 0 <ℤ a → is_zero a ≡ true → ⊥
    high a p e = grind (arith, ints)

-- 0 is told to be
pub zero_true : (a : ℤ) → a ≡ pos 0 → is_zero a ≡ true
zero_true a e = subst (λ v. is_zero v ≡ true) (sym e) refl

-- a number other than 0 is not
pub zero_false : (a : ℤ) → ¬ (a ≡ pos 0) → is_zero a ≡ false
zero_false a n = false_if (is_zero a) (λ e. n (zero_from a e))

-- and back
pub not_zero_from : (a : ℤ) → is_zero a ≡ false → ¬ (a ≡ pos 0)
not_zero_from a e z = not_both (is_zero a) (zero_true a z) e
