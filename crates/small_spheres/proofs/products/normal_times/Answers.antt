use Rattle.std.proofs.Common.{ℕ, ◌<◌, ◌≡◌, ℤ, pos, ◌*ℤ◌, lit<, w64, to_z, of_z}
use Rattle.std.specs.Int.{w128}
use Rattle.std.specs.Int.RustNames.{FitsSigned}
use Rattle.whole_ring.specs.Bounds.{IsWithin}
use Rattle.whole_ring.proofs.Cited.{fits_128, fits_as, read, read_as, same_product, wide, within_below, within_fits}
use Rattle.whole_ring.proofs.Cited.{within_mul}
use Rattle.small_spheres.specs.Sizes.{greatest_scalar}
use Rattle.small_spheres.proofs.products.normal_times.Goals as goal

-- the factor fits, and the product
factor : {n : ℕ} → n < 18446744073709551616 → FitsSigned w128 (pos n)
factor h = within_fits w128 (within_below h) (lit< tt)

both : {z : ℤ} {n : ℕ} → IsWithin greatest_scalar z → n < 18446744073709551616 → FitsSigned w128 (z *ℤ pos n)
both h k = within_fits w128 (within_mul h (within_below k)) (lit< tt)

-- what is read is the product
reads : {z : ℤ} {n : ℕ} → FitsSigned w64 z → n < 18446744073709551616
    → (to_z w128 (of_z w128 (to_z w64 (of_z w64 z))) *ℤ to_z w128 n) ≡ z *ℤ pos n
reads f k = same_product (wide f) (read (factor k))

pub overflow_cast-result : goal.overflow_cast-result
overflow_cast-result c = fits_as (read c.ranges.square) (fits_128 c.ranges.square)

pub overflow_cast-result-2 : goal.overflow_cast-result-2
overflow_cast-result-2 c = factor c.ranges.alpha.fits

pub overflow_mul-result : goal.overflow_mul-result
overflow_mul-result c =
    fits_as (reads c.ranges.square c.ranges.alpha.fits) (both c.requires c.ranges.alpha.fits)

pub returns : goal.returns
returns c = read_as (reads c.ranges.square c.ranges.alpha.fits) (both c.requires c.ranges.alpha.fits)
