-- The laws of specs/Laws, from the sign rule.
use Rattle.std.proofs.Common.{◌≡◌, ◌≢◌, ◌<◌, ◌≤◌, ◌*◌, ◌^◌, ℕ, suc, ℤ, pos, ◌<ℤ◌, ◌≤ℤ◌, refl, sym, arith}
use Rattle.std.proofs.lemmas.Int.{ints}
use Rattle.std.proofs.Math.Nat.{pow-suc, pow-le-pow_right}
use Rattle.whole_ring.specs.Signs.{HasSignOf, below, at_zero, above}
use Rattle.whole_ring.proofs.Cited.{sgn_same, sign}
use Rattle.point_order.specs.Heights.{base, top, base_is, top_is, height, sphere_polynomial, out}
use Rattle.point_order.specs.Laws.{coefficient, PlainSign, TieSign, TieDecided, NeverZero, PlainNotBelow, PlainNotAbove}
use Rattle.point_order.specs.Laws.{HeightParts, PartRises}
use Rattle.point_order.proofs.Perturbation.{out_sign, base_pos, power_pos}
use Rattle.point_order.proofs.SignRule.{sign_of_tie, decided}

-- where the in-sphere polynomial is not 0, it gives the sign
pub plain_sign : PlainSign
plain_sign a b c d e k n =
    sym (sgn_same (sphere_polynomial a b c d e) (out a b c d e) (out_sign a b c d e k.0 k.1 k.2 k.3 k.4) n)

-- at a tie the coefficient of the deciding point does
pub tie_sign : TieSign
tie_sign a b c d e p n t h =
    sym (sgn_same (coefficient a b c d e p) (out a b c d e) (sign_of_tie a b c d e p n t h) h.0)

-- there is a deciding point
pub tie_decided : TieDecided
tie_decided a b c d e n f = decided a b c d e n f

-- what has the sign of a number that is not 0 is not 0
kept : (z r : ℤ) → HasSignOf z r → z ≢ pos 0 → r ≢ pos 0
kept z r h n e =
    elim (sign z) [
      | below m ↦ let k = h.negative m in absurd (omega (arith, ints, k, e))
      | at_zero o ↦ n o
      | above m ↦ let k = h.positive m in absurd (omega (arith, ints, k, e))
    ]

-- so the determinant is not 0
pub never_zero_law : NeverZero
never_zero_law a b c d e k n f =
    let s = sphere_polynomial a b c d e in
    let h : HasSignOf s (out a b c d e) = out_sign a b c d e k.0 k.1 k.2 k.3 k.4 in
    elim (sign s) [
      | below m ↦ kept s (out a b c d e) h (λ z. absurd (omega (arith, ints, m, z)))
      | at_zero t ↦ let g = decided a b c d e n f in kept (coefficient a b c d e g.0) (out a b c d e)
          (sign_of_tie a b c d e g.0 n t g.1) g.1.0
      | above m ↦ kept s (out a b c d e) h (λ z. absurd (omega (arith, ints, m, z)))
    ]

-- a number is not negative where one that has its sign is positive
half_above : (s r : ℤ) → HasSignOf s r → pos 0 <ℤ r → pos 0 ≤ℤ s
half_above s r h p =
    elim (sign s) [
      | below m ↦ let k = h.negative m in absurd (omega (arith, ints))
      | at_zero z ↦ omega (arith, ints, z)
      | above m ↦ omega (arith, ints, m)
    ]

-- and not positive where that is negative
half_below : (s r : ℤ) → HasSignOf s r → r <ℤ pos 0 → s ≤ℤ pos 0
half_below s r h p =
    elim (sign s) [
      | below m ↦ omega (arith, ints, m)
      | at_zero z ↦ omega (arith, ints, z)
      | above m ↦ let k = h.positive m in absurd (omega (arith, ints))
    ]

-- so the in-sphere polynomial is not negative where the determinant is positive
pub plain_not_below : PlainNotBelow
plain_not_below a b c d e k h =
    half_above (sphere_polynomial a b c d e) (out a b c d e) (out_sign a b c d e k.0 k.1 k.2 k.3 k.4) h

-- and not positive where it is negative
pub plain_not_above : PlainNotAbove
plain_not_above a b c d e k h =
    half_below (sphere_polynomial a b c d e) (out a b c d e) (out_sign a b c d e k.0 k.1 k.2 k.3 k.4) h

-- a product with a number above 1 is greater
twice : (b n m : ℕ) → 1 < b → 0 < n → n * b ≤ m → n < m
twice b n m h k l = let e : n * 2 ≤ n * b = grind arith in omega arith

-- the part that the perturbation adds rises with the key
pub part_rises : PartRises
part_rises p q h =
    let e : base ^ suc p ≤ base ^ q = pow-le-pow_right base_pos h in
    let f : base ^ suc p ≡ base ^ p * base = pow-suc base p in
    twice base (base ^ p) (base ^ q) (omega (arith, base_is)) (power_pos p) (omega (arith, e, f))

-- and lies between 0 and the great number
pub height_parts_law : HeightParts
unfolding height
height_parts_law p k = (refl, power_pos p, part_rises p top (omega (arith, top_is)))
