-- Signs of products of whole numbers, and of numbers that have the same sign.
use Rattle.std.specs.Prelude.{ℤ, pos, negsuc, ◌*ℤ◌, neg_ℤ, ◌≡◌, ◌<◌, zero, suc, ◌<ℤ◌, ◌≤ℤ◌, ◌⊎◌}
use Rattle.std.proofs.Common.{arith, refl, ap, sym, ◌∙◌, ap₂, inl, inr, subst, mul-pos}
use Rattle.std.proofs.lemmas.Int.{ints}
use Rattle.std.proofs.Math.IntN.{*ℤ-zero, zero-*ℤ}
use Rattle.whole_ring.proofs.Whole.{mul_neg, neg_mul}
use Rattle.whole_ring.specs.Signs.{Sign, below, at_zero, above, sgn, HasSignOf}

-- every number has a sign
pub sign : (a : ℤ) → Sign a
sign (pos zero) = at_zero refl
sign (pos (suc n)) = above (omega (arith, ints))
sign (negsuc n) = below (omega (arith, ints))

-- ---- the sign of a product

-- positive times positive is positive
pub mul_pos : (a b : ℤ) → pos 0 <ℤ a → pos 0 <ℤ b → pos 0 <ℤ (a *ℤ b)
mul_pos (pos m) (pos n) h k =
    let i : 0 < m = omega (arith, ints) in
    let j : 0 < n = omega (arith, ints) in
    omega (arith, ints, mul-pos i j)
mul_pos (pos m) (negsuc n) h k = absurd k.lt
mul_pos (negsuc m) b h k = absurd h.lt

-- positive times negative is negative
pub mul_pos_neg : (a b : ℤ) → pos 0 <ℤ a → b <ℤ pos 0 → (a *ℤ b) <ℤ pos 0
mul_pos_neg a b h k =
    let n : pos 0 <ℤ neg_ℤ b = omega (arith, ints) in omega (arith, ints, mul_pos a (neg_ℤ b) h n, mul_neg a b)

-- negative times positive is negative
pub mul_neg_pos : (a b : ℤ) → a <ℤ pos 0 → pos 0 <ℤ b → (a *ℤ b) <ℤ pos 0
mul_neg_pos a b h k =
    let n : pos 0 <ℤ neg_ℤ a = omega (arith, ints) in omega (arith, ints, mul_pos (neg_ℤ a) b n k, neg_mul a b)

-- negative times negative is positive
pub mul_neg_neg : (a b : ℤ) → a <ℤ pos 0 → b <ℤ pos 0 → pos 0 <ℤ (a *ℤ b)
mul_neg_neg a b h k =
    let n : pos 0 <ℤ neg_ℤ a = omega (arith, ints) in omega (arith, ints, mul_pos_neg (neg_ℤ a) b n k, neg_mul a b)

-- a square is not negative
pub square_nonneg : (a : ℤ) → pos 0 ≤ℤ (a *ℤ a)
square_nonneg a = elim (sign a) [
  | below h ↦ omega (arith, ints, mul_neg_neg a a h h)
  | at_zero h ↦ zero_case a h
  | above h ↦ omega (arith, ints, mul_pos a a h h)
]
  where
    zero_case : (a : ℤ) → a ≡ pos 0 → pos 0 ≤ℤ (a *ℤ a)
    zero_case a h = rw h (omega (arith, ints))

-- numbers that are not negative have a product that is not negative
pub mul_nonneg : (a b : ℤ) → pos 0 ≤ℤ a → pos 0 ≤ℤ b → pos 0 ≤ℤ (a *ℤ b)
mul_nonneg (pos m) (pos n) h k = omega (arith, ints)
mul_nonneg (pos m) (negsuc n) h k = absurd k.le
mul_nonneg (negsuc m) b h k = absurd h.le

-- ---- the sign of a factor

-- 0 < a and 0 < a * b give 0 < b
pub pos_of_mul_pos : (a b : ℤ) → pos 0 <ℤ a → pos 0 <ℤ (a *ℤ b) → pos 0 <ℤ b
pos_of_mul_pos a b h k = elim (sign b) [
  | below n ↦ absurd (omega (arith, ints, mul_pos_neg a b h n))
  | at_zero z ↦ absurd (at a b z k)
  | above p ↦ p
]
  where
    at : (a b : ℤ) → b ≡ pos 0 → pos 0 <ℤ (a *ℤ b) → ⊥
    at a b z k =
        let P : ℤ → Type 0 =
        λ n. pos 0 <ℤ (a *ℤ n) in let q : pos 0 <ℤ (a *ℤ pos 0) = subst P z k in omega (arith, ints)

-- 0 < a and 0 ≤ a * b give 0 ≤ b
pub nonneg_of_mul_nonneg : (a b : ℤ) → pos 0 <ℤ a → pos 0 ≤ℤ (a *ℤ b) → pos 0 ≤ℤ b
nonneg_of_mul_nonneg a b h k = elim (sign b) [
  | below n ↦ absurd (omega (arith, ints, mul_pos_neg a b h n))
  | at_zero z ↦ omega (arith, ints, z)
  | above p ↦ omega (arith, ints, p)
]

-- a product is 0 only where a factor is
pub zero_factor : (a b : ℤ) → a *ℤ b ≡ pos 0 → (a ≡ pos 0) ⊎ (b ≡ pos 0)
zero_factor a b e =
    elim (sign a) [
      | below p ↦ elim (sign b) [
        | below q ↦ absurd (omega (arith, ints, mul_neg_neg a b p q))
        | at_zero z ↦ inr z
        | above q ↦ absurd (omega (arith, ints, mul_neg_pos a b p q))
      ]
      | at_zero z ↦ inl z
      | above p ↦ elim (sign b) [
        | below q ↦ absurd (omega (arith, ints, mul_pos_neg a b p q))
        | at_zero z ↦ inr z
        | above q ↦ absurd (omega (arith, ints, mul_pos a b p q))
      ]
    ]

-- ---- the sign as a number

-- the sign of a positive number is 1
pub sgn_above : (a : ℤ) → pos 0 <ℤ a → sgn a ≡ pos 1
sgn_above (pos zero) h = absurd h.lt
sgn_above (pos (suc n)) h = refl
sgn_above (negsuc n) h = absurd h.lt

-- the sign of a negative number is -1
pub sgn_below : (a : ℤ) → a <ℤ pos 0 → sgn a ≡ negsuc 0
sgn_below (pos n) h = absurd (omega (arith, ints))
sgn_below (negsuc n) h = refl

-- the sign of a product is the product of the signs
pub sgn_mul : (a b : ℤ) → sgn (a *ℤ b) ≡ sgn a *ℤ sgn b
sgn_mul a b =
    elim (sign a) [
      | below p ↦ elim (sign b) [
        | below q ↦ sgn_above (a *ℤ b) (mul_neg_neg a b p q) ∙ sym (ap₂ (λ m n. m *ℤ n) (sgn_below a p) (sgn_below b q))
        | at_zero z ↦ right_zero a b z
        | above q ↦ sgn_below (a *ℤ b) (mul_neg_pos a b p q) ∙ sym (ap₂ (λ m n. m *ℤ n) (sgn_below a p) (sgn_above b q))
      ]
      | at_zero z ↦ left_zero a b z
      | above p ↦ elim (sign b) [
        | below q ↦ sgn_below (a *ℤ b) (mul_pos_neg a b p q) ∙ sym (ap₂ (λ m n. m *ℤ n) (sgn_above a p) (sgn_below b q))
        | at_zero z ↦ right_zero a b z
        | above q ↦ sgn_above (a *ℤ b) (mul_pos a b p q) ∙ sym (ap₂ (λ m n. m *ℤ n) (sgn_above a p) (sgn_above b q))
      ]
    ]
  where
    left_zero : (a b : ℤ) → a ≡ pos 0 → sgn (a *ℤ b) ≡ sgn a *ℤ sgn b
    left_zero a b z = ap (λ n. sgn (n *ℤ b)) z ∙ ap sgn (zero-*ℤ b) ∙ sym (ap (λ n. sgn n *ℤ sgn b) z ∙ zero-*ℤ (sgn b))

    right_zero : (a b : ℤ) → b ≡ pos 0 → sgn (a *ℤ b) ≡ sgn a *ℤ sgn b
    right_zero a b z =
        ap (λ n. sgn (a *ℤ n)) z ∙ ap sgn (*ℤ-zero a) ∙ sym (ap (λ n. sgn a *ℤ sgn n) z ∙ *ℤ-zero (sgn a))

-- ---- numbers of one sign

-- numbers of one sign have the same sign as a number
pub sgn_same : (a b : ℤ) → HasSignOf a b → ¬ (a ≡ pos 0) → sgn a ≡ sgn b
sgn_same a b h n =
    elim (sign a) [
      | below p ↦ sgn_below a p ∙ sym (sgn_below b (h.negative p))
      | at_zero z ↦ absurd (n z)
      | above p ↦ sgn_above a p ∙ sym (sgn_above b (h.positive p))
    ]
