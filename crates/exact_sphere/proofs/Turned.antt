-- An orientation whose last point comes second.
use Rattle.std.specs.Prelude.{◌≡◌, ℕ}
use Rattle.std.proofs.Common.{arith}
use Rattle.std.proofs.lemmas.Int.{ints}
use Rattle.point_order.specs.Orientation.{orientation}
use Rattle.point_order.proofs.Cited.{swap_last, swap_middle}

-- the last point of an orientation may come second
pub turned_second : (a b c p : ℕ) → orientation a p b c ≡ orientation a b c p
turned_second a b c p = omega (arith, ints, swap_middle a b p c, swap_last a b c p)
