use Rattle.std.proofs.Common.{ℕ, ◌<◌, ◌≡◌, ℤ, pos, ◌*ℤ◌, lit<, to_z, of_z}
use Rattle.std.specs.Int.{w128}
use Rattle.std.specs.Int.RustNames.{FitsSigned}
use Rattle.whole_ring.specs.Bounds.{IsWithin}
use Rattle.whole_ring.proofs.Cited.{fits_as, read, read_as, same_product, within_below, within_fits, within_mul}
use Rattle.small_spheres.specs.Sizes.{greatest_square_of_orientation}
use Rattle.small_spheres.proofs.products.orientation_times.Goals as goal

-- the factor fits, and the product
factor : {n : ℕ} → n < 17179869184 → FitsSigned w128 (pos n)
factor h = within_fits w128 (within_below h) (lit< tt)

both : {z : ℤ} {n : ℕ} → IsWithin greatest_square_of_orientation z → n < 17179869184 → FitsSigned w128 (z *ℤ pos n)
both h k = within_fits w128 (within_mul h (within_below k)) (lit< tt)

-- what is read is the product
reads : {z : ℤ} {n : ℕ} → FitsSigned w128 z → n < 17179869184
    → (to_z w128 (of_z w128 z) *ℤ to_z w128 n) ≡ z *ℤ pos n
reads f k = same_product (read f) (read (factor k))

pub overflow_cast-result : goal.overflow_cast-result
overflow_cast-result c = factor c.requires.alpha

pub overflow_mul-result : goal.overflow_mul-result
overflow_mul-result c =
    fits_as (reads c.ranges.square c.requires.alpha) (both c.requires.square c.requires.alpha)

pub returns : goal.returns
returns c = read_as (reads c.ranges.square c.requires.alpha) (both c.requires.square c.requires.alpha)
