-- How large sums and products are, and that they fit a signed type.
use Rattle.std.proofs.Common.{ℕ, ◌+◌, ◌*◌, ◌^◌, ◌<◌, arith, ℤ, ◌+ℤ◌, ◌-ℤ◌, ◌*ℤ◌}
use Rattle.std.proofs.lemmas.Int.{ints, unsigned_abs-mul, fits_signed_from_abs}
use Rattle.std.proofs.lemmas.Nat.{mul-le}
use Rattle.std.specs.Int.RustNames.{unsigned_abs, FitsSigned}
use Rattle.std.specs.Int.{Width}
use mir.Val.{hbits}
use Rattle.whole_ring.specs.Bounds.{IsWithin}

-- bounds are multiplied
pub within_mul : {m n : ℕ} {x y : ℤ} → IsWithin m x → IsWithin n y → IsWithin (m * n) (x *ℤ y)
within_mul {m} {n} {x} {y} h k =
    record { size = rw (unsigned_abs-mul x y) (mul-le (unsigned_abs x) (unsigned_abs y) m n h.size k.size) }

-- bounds are added
pub within_add : {m n : ℕ} {x y : ℤ} → IsWithin m x → IsWithin n y → IsWithin (m + n) (x +ℤ y)
within_add {m} {n} {x} {y} h k = record { size = omega (arith, ints, h.size, k.size) }

-- bounds are added for a difference too
pub within_sub : {m n : ℕ} {x y : ℤ} → IsWithin m x → IsWithin n y → IsWithin (m + n) (x -ℤ y)
within_sub {m} {n} {x} {y} h k = record { size = omega (arith, ints, h.size, k.size) }

-- a bound below 2 to the width's bits but one: the number fits the signed type of that width
pub within_fits : (w : Width) {m : ℕ} {x : ℤ} → IsWithin m x → m < 2 ^ hbits w → FitsSigned w x
within_fits w {m} {x} h k = fits_signed_from_abs w x (omega (arith, h.size))
