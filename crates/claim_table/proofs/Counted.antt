-- The numbers from one on.
use Rattle.std.specs.Prelude.{ℕ, zero, suc, ◌+◌, ◌<◌, ◌≤◌}
use Rattle.std.specs.List.{range_with_len}
use Rattle.std.proofs.Common.{inl, inr, arith}
use mathlib.Core.Logic.{dite}
use native.Mathlib.Decide.{ℕ_discrete}
use Rattle.point_order.specs.Sets.{IsIn}

-- a number from a on and below a + n is one of the n numbers from a on
pub is_counted : (a n x : ℕ) → a ≤ x → x < a + n → IsIn x (range_with_len a n)
is_counted a zero x l m = absurd (omega (arith, l, m))
is_counted a (suc n) x l m =
    dite (ℕ_discrete a x) (λ e. inl e) (λ d. inr (is_counted (a + 1) n x (omega (arith, l, d)) (omega (arith, m))))
