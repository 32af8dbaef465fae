-- Whole numbers against 0 and against each other, and the tests of order.
use Rattle.std.specs.Int.Signed.{le_z, lt_z}
use Rattle.std.specs.Prelude.{neg_ℤ, pos, true, ℤ, ◌*ℤ◌, ◌+ℤ◌, ◌<ℤ◌, ◌≡◌, ◌≤ℤ◌, ◌⊎◌}
use Rattle.std.proofs.Common.{ap, arith, inl, inr, ◌∙◌}
use Rattle.std.proofs.Math.IntN.{*ℤ-zero}
use Rattle.std.proofs.lemmas.Int.{ints}
use Rattle.whole_ring.specs.Signs.{above, at_zero, below}
use Rattle.whole_ring.proofs.Cited.{sign, zero_factor}
use Rattle.list_laws.proofs.Decided.{is_at_zero}

-- a positive number is not negative
pub weak : (a : ℤ) → pos 0 <ℤ a → pos 0 ≤ℤ a
weak a h = omega (arith, ints)

-- 0 is not negative
pub zero_weak : (a : ℤ) → a ≡ pos 0 → pos 0 ≤ℤ a
zero_weak a h = omega (arith, ints)

-- a positive number is not 0
pub not_zero : (a : ℤ) → pos 0 <ℤ a → a ≡ pos 0 → ⊥
not_zero a h e = omega (arith, ints)

-- no number is negative and not negative
pub clash : (a : ℤ) → a <ℤ pos 0 → pos 0 ≤ℤ a → ⊥
clash a h k = omega (arith, ints)

-- no number is positive and not positive
pub clash_above : (a : ℤ) → pos 0 <ℤ a → a ≤ℤ pos 0 → ⊥
clash_above a h k = omega (arith, ints)

-- a number and its opposite, neither negative, are 0
pub opposite : (a b : ℤ) → pos 0 ≤ℤ a → pos 0 ≤ℤ b → b ≡ neg_ℤ a → a ≡ pos 0
opposite a b h k e = omega (arith, ints)

-- a positive number has no opposite that is not negative
pub against : (a b : ℤ) → pos 0 <ℤ a → pos 0 ≤ℤ b → b ≡ neg_ℤ a → ⊥
against a b h k e = omega (arith, ints)

-- a number whose opposite is positive is negative
pub low_of : (a b : ℤ) → pos 0 <ℤ b → b ≡ neg_ℤ a → a <ℤ pos 0
low_of a b h e = omega (arith, ints)

-- the opposite of a positive number is negative
pub low_turned : (a b : ℤ) → pos 0 <ℤ a → b ≡ neg_ℤ a → b <ℤ pos 0
low_turned a b h e = omega (arith, ints)

-- the opposite of a negative number is positive
pub high_of : (a b : ℤ) → a <ℤ pos 0 → b ≡ neg_ℤ a → pos 0 <ℤ b
high_of a b h e = omega (arith, ints)

-- no number is positive and negative
pub two_signs : (a : ℤ) → pos 0 <ℤ a → a <ℤ pos 0 → ⊥
two_signs a h k = omega (arith, ints)

-- a number whose opposite is positive is not positive
pub weak_below : (a : ℤ) → pos 0 <ℤ neg_ℤ a → a ≤ℤ pos 0
weak_below a h = omega (arith, ints)

-- the opposite of a negative number is positive
pub turned_below : (a : ℤ) → a <ℤ pos 0 → pos 0 <ℤ neg_ℤ a
turned_below a h = omega (arith, ints)

-- a number whose opposite is not positive is not negative
pub turned_most : (a : ℤ) → neg_ℤ a ≤ℤ pos 0 → pos 0 ≤ℤ a
turned_most a h = omega (arith, ints)

-- a number that is not negative and not 0 is positive
pub positive : (a : ℤ) → pos 0 ≤ℤ a → ¬ (a ≡ pos 0) → pos 0 <ℤ a
positive a h n = elim (sign a) [ below p ↦ absurd (omega (arith, ints, p)) | at_zero z ↦ absurd (n z) | above p ↦ p ]

-- a number that is not negative and not positive is 0
pub settled : (a : ℤ) → pos 0 ≤ℤ a → (pos 0 <ℤ a → ⊥) → a ≡ pos 0
settled a h n = elim (sign a) [ below p ↦ omega (arith, ints, p) | at_zero e ↦ e | above p ↦ absurd (n p) ]

-- a number that cannot be negative is not
pub not_below : (a : ℤ) → (a <ℤ pos 0 → ⊥) → pos 0 ≤ℤ a
not_below a n = elim (sign a) [
  | below p ↦ absurd (n p)
  | at_zero p ↦ omega (arith, ints, p)
  | above p ↦ omega (arith, ints, p)
]

-- a number is negative or not
pub below_or_not : (a : ℤ) → (a <ℤ pos 0) ⊎ (pos 0 ≤ℤ a)
below_or_not a = elim (sign a) [
  | below p ↦ inl p
  | at_zero p ↦ inr (omega (arith, ints, p))
  | above p ↦ inr (omega (arith, ints, p))
]

-- a number is positive or not
pub above_or_not : (a : ℤ) → (pos 0 <ℤ a) ⊎ (a ≤ℤ pos 0)
above_or_not a = elim (sign a) [
  | below p ↦ inr (omega (arith, ints, p))
  | at_zero p ↦ inr (omega (arith, ints, p))
  | above p ↦ inl p
]

-- of two numbers one is not at most the other and greater
pub not_back : (p q : ℤ) → p ≤ℤ q → q <ℤ p → ⊥
not_back p q h k = omega (arith, ints)

-- a number that is not negative is positive where a multiple of it is
pub positive_factor : (a b : ℤ) → pos 0 <ℤ (a *ℤ b) → pos 0 ≤ℤ b → pos 0 <ℤ b
positive_factor a b h k =
    elim (sign b) [
      | below p ↦ absurd (omega (arith, ints, p))
      | above p ↦ p
      | at_zero z ↦ absurd (stuck (ap (λ x. a *ℤ x) z ∙ *ℤ-zero a))
    ]
  where
    -- then its product is 0
    stuck : a *ℤ b ≡ pos 0 → ⊥
    stuck e = omega (arith, ints)

-- one of four numbers with a positive sum is positive
pub one_above : (w x y z : ℤ) → pos 0 <ℤ (w +ℤ x +ℤ y +ℤ z) →
    (pos 0 <ℤ w) ⊎ ((pos 0 <ℤ x) ⊎ ((pos 0 <ℤ y) ⊎ (pos 0 <ℤ z)))
one_above w x y z h = elim (above_or_not w) [
  | inl p ↦ inl p
  | inr i ↦ elim (above_or_not x) [
    | inl p ↦ inr (inl p)
    | inr j ↦ elim (above_or_not y) [
      | inl p ↦ inr (inr (inl p))
      | inr k ↦ inr (inr (inr (omega (arith, ints, i, j, k))))
    ]
  ]
]

-- a sum of four products, each with a factor 0, is 0
pub zero_terms : (w x y z p q r t : ℤ) → p ≡ pos 0 → q ≡ pos 0 → r ≡ pos 0 → t ≡ pos 0 →
    w *ℤ p +ℤ x *ℤ q +ℤ y *ℤ r +ℤ z *ℤ t ≡ pos 0
zero_terms w x y z p q r t a b c d =
    omega (
      arith,
      ints,
      ap (λ v. w *ℤ v) a ∙ *ℤ-zero w,
      ap (λ v. x *ℤ v) b ∙ *ℤ-zero x,
      ap (λ v. y *ℤ v) c ∙ *ℤ-zero y,
      ap (λ v. z *ℤ v) d ∙ *ℤ-zero z,
    )

-- the test of an order says the order
pub less_from : (a b : ℤ) → lt_z a b ≡ true → a <ℤ b
less_from a b e = grind (arith, ints)

-- and the order passes the test
pub less_true : (a b : ℤ) → a <ℤ b → lt_z a b ≡ true
less_true a b l = grind (arith, ints)

-- the same of the weak order
pub most_from : (a b : ℤ) → le_z a b ≡ true → a ≤ℤ b
most_from a b e = grind (arith, ints)

-- and back
pub most_true : (a b : ℤ) → a ≤ℤ b → le_z a b ≡ true
most_true a b l = grind (arith, ints)

-- a number that is not other than 0 is 0
pub not_other : (z : ℤ) → (¬ (z ≡ pos 0) → ⊥) → z ≡ pos 0
not_other z f = elim (is_at_zero z) [ yes e ↦ e | no k ↦ absurd (f k) ]

-- a product that is 0, one factor not being 0
pub other_factor : (p q : ℤ) → ¬ (p ≡ pos 0) → p *ℤ q ≡ pos 0 → q ≡ pos 0
other_factor p q k e = elim (zero_factor p q e) [ inl z ↦ absurd (k z) | inr z ↦ z ]

-- a product that is 0, the second factor not being 0
pub first_factor : (p q : ℤ) → ¬ (q ≡ pos 0) → p *ℤ q ≡ pos 0 → p ≡ pos 0
first_factor p q k e = elim (zero_factor p q e) [ inl z ↦ z | inr z ↦ absurd (k z) ]

-- a number that is its own opposite is 0
pub self_negative : (z : ℤ) → z ≡ neg_ℤ z → z ≡ pos 0
self_negative z e = omega (arith, ints)

-- the opposite of 0 is 0
pub negative_of_zero : (y z : ℤ) → z ≡ neg_ℤ y → y ≡ pos 0 → z ≡ pos 0
negative_of_zero y z e h = omega (arith, ints)
