-- The sign of the lifted determinant at the perturbed heights, by the coefficient that decides a tie.
use Rattle.std.proofs.Common.{◌≡◌, ◌≢◌, ◌<◌, ◌≤◌, ◌+◌, ◌⊎◌, inl, inr, ℕ, zero, suc, ℤ, pos, subst, sym, ap, ◌∙◌, arith}
use Rattle.std.proofs.Common.{false}
use Rattle.std.proofs.lemmas.Int.{ints}
use Rattle.std.proofs.lemmas.Bool.Decides.{nat_tests}
use Rattle.std.proofs.Math.IntN.{neg_ℤ}
use Rattle.whole_ring.specs.Signs.{HasSignOf, below, at_zero, above}
use Rattle.whole_ring.proofs.Cited.{sign}
use Rattle.point_order.specs.Orientation.{orientation, is_zero, is_flat}
use Rattle.point_order.specs.Heights.{sphere_polynomial, out}
use Rattle.point_order.specs.Sets.{AreFive}
use Rattle.point_order.specs.Laws.{coefficient, IsDeciding}
use Rattle.point_order.proofs.Perturbation.{Yields, tie_a, tie_b, tie_c, tie_d, tie_e}

-- ---- the coefficients of five points

-- the coefficient of the fifth
pub coefficient_e : (a b c d e : ℕ) → AreFive a b c d e → coefficient a b c d e e ≡ orientation a b c d
coefficient_e a b c d e h = grind (arith, nat_tests)

-- of the fourth
pub coefficient_d : (a b c d e : ℕ) → AreFive a b c d e → coefficient a b c d e d ≡ neg_ℤ (orientation a b c e)
coefficient_d a b c d e h = grind (arith, nat_tests)

-- of the third
pub coefficient_c : (a b c d e : ℕ) → AreFive a b c d e → coefficient a b c d e c ≡ orientation a b d e
coefficient_c a b c d e h = grind (arith, nat_tests)

-- of the second
pub coefficient_b : (a b c d e : ℕ) → AreFive a b c d e → coefficient a b c d e b ≡ neg_ℤ (orientation a c d e)
coefficient_b a b c d e h = grind (arith, nat_tests)

-- of the first
pub coefficient_a : (a b c d e : ℕ) → AreFive a b c d e → coefficient a b c d e a ≡ orientation b c d e
coefficient_a a b c d e h = grind (arith, nat_tests)

-- a point that is none of the five has the coefficient 0
pub coefficient_none : (a b c d e p : ℕ) → p ≢ a → p ≢ b → p ≢ c → p ≢ d → p ≢ e → coefficient a b c d e p ≡ pos 0
coefficient_none a b c d e p ha hb hc hd he = grind (arith, nat_tests)

-- a point whose coefficient is not 0 is one of the five
pub one_of_five : (a b c d e p : ℕ) → coefficient a b c d e p ≢ pos 0 → (p ≡ a) ⊎ (p ≡ b) ⊎ (p ≡ c) ⊎ (p ≡ d) ⊎ (p ≡ e)
one_of_five a b c d e p n = grind (arith, nat_tests, coefficient_none a b c d e p)

-- ---- which coefficient decides

-- every point that is greater than p has the coefficient 0
abbrev IsPast : ℕ → ℕ → ℕ → ℕ → ℕ → ℕ → Type 0
IsPast a b c d e p = (q : ℕ) → p < q → coefficient a b c d e q ≡ pos 0

-- so another of the five has the coefficient 0, or is less
yields : (a b c d e p q : ℕ) (z : ℤ) → IsPast a b c d e p → coefficient a b c d e q ≡ z → q ≢ p → Yields z q p
yields a b c d e p q z h is n =
    record { either = grind (arith, h q) }

-- the same where the coefficient is a negated number
yields_neg : (a b c d e p q : ℕ) (z : ℤ) → IsPast a b c d e p → coefficient a b c d e q ≡ neg_ℤ z → q ≢ p → Yields z q p
yields_neg a b c d e p q z h is n =
    record {
      either = elim (let y = yields a b c d e p q (neg_ℤ z) h is n in y.either) [
        | inl e ↦ inl (zero z e)
        | inr l ↦ inr l
      ];
    }
  where
    zero : (z : ℤ) → neg_ℤ z ≡ pos 0 → z ≡ pos 0
    zero z e = omega (arith, ints)

-- at a tie where e is past every other with a coefficient, it gives the sign
decides_e : (a b c d e : ℕ) → AreFive a b c d e → sphere_polynomial a b c d e ≡ pos 0 → IsPast a b c d e e →
    HasSignOf (orientation a b c d) (out a b c d e)
decides_e a b c d e n t h =
    tie_e a b c d e t (yields_neg a b c d e e d (orientation a b c e) h (coefficient_d a b c d e n) n.9)
    (yields a b c d e e c (orientation a b d e) h (coefficient_c a b c d e n) n.8)
    (yields_neg a b c d e e b (orientation a c d e) h (coefficient_b a b c d e n) n.6)
    (yields a b c d e e a (orientation b c d e) h (coefficient_a a b c d e n) n.3)

-- where d is
decides_d : (a b c d e : ℕ) → AreFive a b c d e → sphere_polynomial a b c d e ≡ pos 0 → IsPast a b c d e d →
    HasSignOf (neg_ℤ (orientation a b c e)) (out a b c d e)
decides_d a b c d e n t h =
    tie_d a b c d e t (yields a b c d e d e (orientation a b c d) h (coefficient_e a b c d e n) (λ w. n.9 (sym w)))
    (yields a b c d e d c (orientation a b d e) h (coefficient_c a b c d e n) n.7)
    (yields_neg a b c d e d b (orientation a c d e) h (coefficient_b a b c d e n) n.5)
    (yields a b c d e d a (orientation b c d e) h (coefficient_a a b c d e n) n.2)

-- where c is
decides_c : (a b c d e : ℕ) → AreFive a b c d e → sphere_polynomial a b c d e ≡ pos 0 → IsPast a b c d e c →
    HasSignOf (orientation a b d e) (out a b c d e)
decides_c a b c d e n t h =
    tie_c a b c d e t (yields a b c d e c e (orientation a b c d) h (coefficient_e a b c d e n) (λ w. n.8 (sym w)))
    (yields_neg a b c d e c d (orientation a b c e) h (coefficient_d a b c d e n) (λ w. n.7 (sym w)))
    (yields_neg a b c d e c b (orientation a c d e) h (coefficient_b a b c d e n) n.4)
    (yields a b c d e c a (orientation b c d e) h (coefficient_a a b c d e n) n.1)

-- where b is
decides_b : (a b c d e : ℕ) → AreFive a b c d e → sphere_polynomial a b c d e ≡ pos 0 → IsPast a b c d e b →
    HasSignOf (neg_ℤ (orientation a c d e)) (out a b c d e)
decides_b a b c d e n t h =
    tie_b a b c d e t (yields a b c d e b e (orientation a b c d) h (coefficient_e a b c d e n) (λ w. n.6 (sym w)))
    (yields_neg a b c d e b d (orientation a b c e) h (coefficient_d a b c d e n) (λ w. n.5 (sym w)))
    (yields a b c d e b c (orientation a b d e) h (coefficient_c a b c d e n) (λ w. n.4 (sym w)))
    (yields a b c d e b a (orientation b c d e) h (coefficient_a a b c d e n) n.0)

-- where a is
decides_a : (a b c d e : ℕ) → AreFive a b c d e → sphere_polynomial a b c d e ≡ pos 0 → IsPast a b c d e a →
    HasSignOf (orientation b c d e) (out a b c d e)
decides_a a b c d e n t h =
    tie_a a b c d e t (yields a b c d e a e (orientation a b c d) h (coefficient_e a b c d e n) (λ w. n.3 (sym w)))
    (yields_neg a b c d e a d (orientation a b c e) h (coefficient_d a b c d e n) (λ w. n.2 (sym w)))
    (yields a b c d e a c (orientation a b d e) h (coefficient_c a b c d e n) (λ w. n.1 (sym w)))
    (yields_neg a b c d e a b (orientation a c d e) h (coefficient_b a b c d e n) (λ w. n.0 (sym w)))

-- what holds for the coefficient of a point that is q
at : (a b c d e p q : ℕ) (z : ℤ) → p ≡ q → coefficient a b c d e q ≡ z → IsPast a b c d e p →
    (IsPast a b c d e q → HasSignOf z (out a b c d e)) → HasSignOf (coefficient a b c d e p) (out a b c d e)
at a b c d e p q z is k h f =
    let P : ℕ → Type 0 = λ v. IsPast a b c d e v in
    let S : ℤ → Type 0 = λ v. HasSignOf v (out a b c d e) in
    let i : coefficient a b c d e p ≡ z = ap (λ v. coefficient a b c d e v) is ∙ k in
    subst S (sym i) (f (subst P is h))

-- at a tie the coefficient of the greatest point whose coefficient is not 0 has the sign
pub sign_of_tie : (a b c d e p : ℕ) → AreFive a b c d e → sphere_polynomial a b c d e ≡ pos 0 → IsDeciding a b c d e p →
    HasSignOf (coefficient a b c d e p) (out a b c d e)
sign_of_tie a b c d e p n t h =
    elim (one_of_five a b c d e p h.0) [
      | inl x ↦ at a b c d e p a (orientation b c d e) x (coefficient_a a b c d e n) h.1 (decides_a a b c d e n t)
      | inr r ↦ elim r [
        | inl x ↦ at a b c d e p b (neg_ℤ (orientation a c d e)) x (coefficient_b a b c d e n) h.1
            (decides_b a b c d e n t)
        | inr r2 ↦ elim r2 [
          | inl x ↦ at a b c d e p c (orientation a b d e) x (coefficient_c a b c d e n) h.1 (decides_c a b c d e n t)
          | inr r3 ↦ elim r3 [
            | inl x ↦ at a b c d e p d (neg_ℤ (orientation a b c e)) x (coefficient_d a b c d e n) h.1
                (decides_d a b c d e n t)
            | inr x ↦ at a b c d e p e (orientation a b c d) x (coefficient_e a b c d e n) h.1 (decides_e a b c d e n t)
          ]
        ]
      ]
    ]

-- ---- some point decides

-- a number that is not told to be 0 is not 0
pub not_zero : (z : ℤ) → is_zero z ≡ false → z ≢ pos 0
not_zero z h = grind (arith, ints)

-- a number past the sum of the five is none of them
none_past : (a b c d e q : ℕ) → a + b + c + d + e < q → coefficient a b c d e q ≡ pos 0
none_past a b c d e q l =
    coefficient_none a b c d e q (λ x. absurd (omega arith)) (λ x. absurd (omega arith)) (λ x. absurd (omega arith))
    (λ x. absurd (omega arith)) (λ x. absurd (omega arith))

-- from n down to the greatest that has a coefficient
find : (a b c d e n : ℕ) → coefficient a b c d e e ≢ pos 0 → ((q : ℕ) → n ≤ q → coefficient a b c d e q ≡ pos 0) →
    (p : ℕ) × IsDeciding a b c d e p
find a b c d e zero k h = absurd (k (h e (omega arith)))
find a b c d e (suc n) k h =
    elim (sign (coefficient a b c d e n)) [
      | below m ↦ (n, ((λ z. absurd (omega (arith, ints, m, z))), λ q l. h q (omega arith)))
      | at_zero z ↦ find a b c d e n k (λ q l. step a b c d e n q z h l)
      | above m ↦ (n, ((λ z. absurd (omega (arith, ints, m, z))), λ q l. h q (omega arith)))
    ]
  where
    or_past : (n q : ℕ) → n ≤ q → (q ≡ n) ⊎ (suc n ≤ q)
    or_past n q l = grind arith

    step : (a b c d e n q : ℕ) → coefficient a b c d e n ≡ pos 0 →
        ((q : ℕ) → suc n ≤ q → coefficient a b c d e q ≡ pos 0) → n ≤ q → coefficient a b c d e q ≡ pos 0
    step a b c d e n q z h l = elim (or_past n q l) [ inl i ↦ ap (λ v. coefficient a b c d e v) i ∙ z | inr m ↦ h q m ]

-- of five points of which the first four are independent, one decides
pub decided : (a b c d e : ℕ) → AreFive a b c d e → is_flat a b c d ≡ false → (p : ℕ) × IsDeciding a b c d e p
decided a b c d e n f =
    find a b c d e (suc (a + b + c + d + e)) (λ z. not_zero (orientation a b c d) f
    (sym (coefficient_e a b c d e n) ∙ z)) (λ q l. none_past a b c d e q (omega arith))
