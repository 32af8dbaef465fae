-- What code computes of signed numbers: each number that it reads is the one that was written, where that one fits.
use Rattle.std.proofs.Common.{◌≡◌, arith, ℕ, ◌<◌, ◌^◌, ℤ, pos, ◌+ℤ◌, ◌-ℤ◌, ◌*ℤ◌, ◌∙◌, ap, sym, subst, lit<, w64, to_z}
use Rattle.std.proofs.Common.{of_z}
use Rattle.std.proofs.lemmas.Int.{ints, to_z-of_z}
use Rattle.std.specs.Int.{Width, w128}
use Rattle.std.specs.Int.RustNames.{FitsSigned}
use mir.Val.{hbits}
use Rattle.whole_ring.specs.Bounds.{IsWithin}
use Rattle.whole_ring.proofs.Bounds.{within_fits, within_mul}

-- a number that fits is read as itself
pub read : {w : Width} {x : ℤ} → FitsSigned w x → to_z w (of_z w x) ≡ x
read {w} {x} h = to_z-of_z w x h

-- and so is one that is equal to it
pub read_as : {w : Width} {x y : ℤ} → x ≡ y → FitsSigned w y → to_z w (of_z w x) ≡ y
read_as {w} {x} {y} e h = ap (λ z. to_z w (of_z w z)) e ∙ to_z-of_z w y h

-- sums, differences and products of equal numbers
pub same_sum : {a b x y : ℤ} → a ≡ x → b ≡ y → a +ℤ b ≡ x +ℤ y
same_sum {a} {b} {x} {y} e f = ap (λ z. z +ℤ b) e ∙ ap (λ z. x +ℤ z) f

-- differences of equal numbers are equal
pub same_difference : {a b x y : ℤ} → a ≡ x → b ≡ y → a -ℤ b ≡ x -ℤ y
same_difference {a} {b} {x} {y} e f = ap (λ z. z -ℤ b) e ∙ ap (λ z. x -ℤ z) f

-- and so are products
pub same_product : {a b x y : ℤ} → a ≡ x → b ≡ y → a *ℤ b ≡ x *ℤ y
same_product {a} {b} {x} {y} e f = ap (λ z. z *ℤ b) e ∙ ap (λ z. x *ℤ z) f

-- what is known of the size of a number holds of an equal one
pub fits_as : {w : Width} {x y : ℤ} → x ≡ y → FitsSigned w y → FitsSigned w x
fits_as {w} e h = subst (FitsSigned w) (sym e) h

-- a number that is equal to one of a size has it
pub within_as : {n : ℕ} {x y : ℤ} → x ≡ y → IsWithin n y → IsWithin n x
within_as {n} e h = subst (IsWithin n) (sym e) h

-- and what is read is of the size of the number
pub within_read : (w : Width) {n : ℕ} {x : ℤ} → IsWithin n x → n < 2 ^ hbits w → IsWithin n (to_z w (of_z w x))
within_read w h k = within_as (read (within_fits w h k)) h

-- a natural number below another, and that other itself
pub within_below : {n k : ℕ} → k < n → IsWithin n (pos k)
within_below h = record { size = omega (arith, h) }

-- a natural number is of its own size
pub within_self : (n : ℕ) → IsWithin n (pos n)
within_self n = record { size = omega arith }

-- a number of 64 bits is between -2^63 and 2^63
within_64 : {x : ℤ} → FitsSigned w64 x → IsWithin 9223372036854775808 x
within_64 {x} h = record { size = omega (arith, ints, h) }

-- such a number and the product of two fit 128 bits
pub fits_128 : {x : ℤ} → FitsSigned w64 x → FitsSigned w128 x
fits_128 h = within_fits w128 (within_64 h) (lit< tt)

-- and their product does
pub product_fits_128 : {x y : ℤ} → FitsSigned w64 x → FitsSigned w64 y → FitsSigned w128 (x *ℤ y)
product_fits_128 h k = within_fits w128 (within_mul (within_64 h) (within_64 k)) (lit< tt)

-- taken into 128 bits and read there, it is itself
pub wide : {x : ℤ} → FitsSigned w64 x → to_z w128 (of_z w128 (to_z w64 (of_z w64 x))) ≡ x
wide h = read_as (read h) (fits_128 h)
