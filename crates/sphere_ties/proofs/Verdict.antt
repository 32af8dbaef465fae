-- What two signs say of the side.
use Rattle.std.proofs.Common.{◌≡◌, ◌≢◌, arith, ℤ, pos, ◌<ℤ◌, false}
use Rattle.std.specs.Prelude.{◌&&◌, ◌||◌}
use Rattle.std.proofs.lemmas.Int.{ints}
use Rattle.std.specs.Int.Signed.{lt_z}
use mathlib.Core.Bool.{beq}
use Rattle.whole_ring.specs.Signs.{HasSignOf, below, at_zero, above}
use Rattle.whole_ring.proofs.Cited.{sign}
use Rattle.point_order.specs.Orientation.{is_zero}

-- s has the sign of r and is not 0, nor is o: s and o are both positive or neither is, exactly where o and r have one
-- sign
pub verdict : (s o r : ℤ) → s ≢ pos 0 → is_zero o ≡ false → HasSignOf s r → beq (lt_z (pos 0) s) (lt_z (pos 0) o)
    ≡ ((lt_z (pos 0) o && lt_z (pos 0) r) || (lt_z o (pos 0) && lt_z r (pos 0)))
verdict s o r n f h =
    elim (sign s) [
      | below p ↦ let m : r <ℤ pos 0 = h.negative p in negative s o r p f m
      | at_zero z ↦ absurd (n z)
      | above p ↦ let m : pos 0 <ℤ r = h.positive p in positive s o r p f m
    ]
  where
    negative : (s o r : ℤ) → s <ℤ pos 0 → is_zero o ≡ false → r <ℤ pos 0 → beq (lt_z (pos 0) s) (lt_z (pos 0) o)
        ≡ ((lt_z (pos 0) o && lt_z (pos 0) r) || (lt_z o (pos 0) && lt_z r (pos 0)))
    negative s o r p f m = grind (arith, ints)

    positive : (s o r : ℤ) → pos 0 <ℤ s → is_zero o ≡ false → pos 0 <ℤ r → beq (lt_z (pos 0) s) (lt_z (pos 0) o)
        ≡ ((lt_z (pos 0) o && lt_z (pos 0) r) || (lt_z o (pos 0) && lt_z r (pos 0)))
    positive s o r p f m = grind (arith, ints)
