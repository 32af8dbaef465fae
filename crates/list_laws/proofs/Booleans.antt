-- When `and`, `or`, `not` and a choice are true.
use Rattle.std.specs.Prelude.{Bool, cond, false, not, true, ◌&&◌, ◌||◌, ◌≡◌, ◌⊎◌}
use Rattle.std.proofs.Common.{ap, arith, inl, inr, refl, sym}

-- both pass
pub both_true : (a b : Bool) → a ≡ true → b ≡ true → (a && b) ≡ true
both_true true true e f = refl
both_true true false e f = f
both_true false b e f = e

-- the first of two that pass
pub first_true : (a b : Bool) → (a && b) ≡ true → a ≡ true
first_true true b e = refl
first_true false b e = e

-- the second
pub second_true : (a b : Bool) → (a && b) ≡ true → b ≡ true
second_true true b e = e
second_true false b e = cc

-- one of two passes
pub one_true : (a b : Bool) → (a || b) ≡ true → (a ≡ true) ⊎ (b ≡ true)
one_true true b e = inl refl
one_true false b e = inr e

-- so one of them does: the first
pub left_true : (a b : Bool) → a ≡ true → (a || b) ≡ true
left_true true b e = refl
left_true false b e = cc

-- or the second
pub right_true : (a b : Bool) → b ≡ true → (a || b) ≡ true
right_true true b e = refl
right_true false b e = e

-- no test passes and fails
pub not_both : (a : Bool) → a ≡ true → a ≡ false → ⊥
not_both true e f = cc
not_both false e f = cc

-- a test passes or fails
pub true_or_false : (a : Bool) → (a ≡ true) ⊎ (a ≡ false)
true_or_false true = inl refl
true_or_false false = inr refl

-- a test that does not pass fails
pub false_if : (a : Bool) → (a ≡ true → ⊥) → a ≡ false
false_if true n = absurd (n refl)
false_if false n = refl

-- tests that pass together are one
pub same_test : (a b : Bool) → (a ≡ true → b ≡ true) → (b ≡ true → a ≡ true) → a ≡ b
same_test true b f g = sym (f refl)
same_test false true f g = g refl
same_test false false f g = refl

-- the negation of a test that fails
pub not_true : (a : Bool) → a ≡ false → not a ≡ true
not_true true e = cc
not_true false e = refl

-- and back
pub not_from : (a : Bool) → not a ≡ true → a ≡ false
not_from true e = cc
not_from false e = refl

-- four tests that pass together
pub four_true : (a b c d : Bool) → a ≡ true → b ≡ true → c ≡ true → d ≡ true → (a && b && c && d) ≡ true
four_true a b c d e f g h = cc

-- each of them
pub four_is : (a b c d : Bool) → (a && b && c && d) ≡ true → (a ≡ true) × (b ≡ true) × (c ≡ true) × (d ≡ true)
four_is a b c d h = grind arith

-- in another order
pub and_first : (a b c d : Bool) → (a && b && c && d) ≡ (b && a && c && d)
and_first a b c d = grind arith

-- in another order
pub and_middle : (a b c d : Bool) → (a && b && c && d) ≡ (a && c && b && d)
and_middle a b c d = grind arith

-- in another order
pub and_last : (a b c d : Bool) → (a && b && c && d) ≡ (a && b && d && c)
and_last a b c d = grind arith

-- the one and not the other
pub and_not : (a b : Bool) → a ≡ true → b ≡ false → (a && not b) ≡ true
and_not a b h k = grind arith

-- and back
pub and_not_from : (a b : Bool) → (a && not b) ≡ true → (a ≡ true) × (b ≡ false)
and_not_from a b h = grind arith

-- the one, and not without the other
pub and_not_false : (a b : Bool) → a ≡ true → (a && not b) ≡ false → b ≡ true
and_not_false a b h k = grind arith

-- a choice where the test passes
pub cond_true : {A : Type 0} (b : Bool) (x y : A) → b ≡ true → cond b x y ≡ x
cond_true b x y e = ap (λ b. cond b x y) e

-- and where it does not
pub cond_false : {A : Type 0} (b : Bool) (x y : A) → b ≡ false → cond b x y ≡ y
cond_false b x y e = ap (λ b. cond b x y) e
