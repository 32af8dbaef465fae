-- The sign of a whole number.
use Rattle.std.specs.Prelude.{ℤ, pos, negsuc, zero, suc, ◌≡◌, ◌<ℤ◌}

-- where a is positive or negative, so is b
pub record HasSignOf (a b : ℤ) : Type 0 where
  pub positive : pos 0 <ℤ a → pos 0 <ℤ b
  pub negative : a <ℤ pos 0 → b <ℤ pos 0

-- where a number lies: below, at or above zero
pub data Sign (a : ℤ) : Type 0 where
  below : a <ℤ pos 0 → Sign a
  at_zero : a ≡ pos 0 → Sign a
  above : pos 0 <ℤ a → Sign a

-- the sign as a number: -1, 0 or 1
abbrev pub sgn : ℤ → ℤ
sgn (pos zero) = pos 0
sgn (pos (suc n)) = pos 1
sgn (negsuc n) = negsuc 0
