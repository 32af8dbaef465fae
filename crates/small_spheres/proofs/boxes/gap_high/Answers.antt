use Rattle.std.proofs.Common.{◌≡◌, refl, ℤ, pos, ◌+ℤ◌, ◌-ℤ◌, ◌*ℤ◌, lit<, w64, to_z, of_z}
use Rattle.std.specs.Int.RustNames.{FitsSigned}
use Rattle.whole_ring.specs.Bounds.{IsWithin}
use Rattle.whole_ring.proofs.Cited.{fits_as, read, read_as, same_difference, same_product, same_sum, within_add}
use Rattle.whole_ring.proofs.Cited.{within_fits, within_mul, within_self, within_sub}
use Rattle.point_order.specs.Sizes.{greatest_difference, greatest_orientation}
use Rattle.small_spheres.specs.Sizes.{greatest_scalar}
use Rattle.small_spheres.specs.Boxes.{high_gap}
use Rattle.small_spheres.proofs.boxes.gap_high.Goals as goal

-- twice the orientation, the step to the plane, their product, and the gap fit
twice : {o : ℤ} → IsWithin greatest_orientation o → FitsSigned w64 (pos 2 *ℤ o)
twice h = within_fits w64 (within_mul (within_self 2) h) (lit< tt)

way : {s : ℤ} → IsWithin greatest_difference s → FitsSigned w64 (s +ℤ pos 1)
way k = within_fits w64 (within_add k (within_self 1)) (lit< tt)

both : {o s : ℤ} → IsWithin greatest_orientation o → IsWithin greatest_difference s →
    FitsSigned w64 (pos 2 *ℤ o *ℤ (s +ℤ pos 1))
both h k = within_fits w64 (within_mul (within_mul (within_self 2) h) (within_add k (within_self 1))) (lit< tt)

-- what is read of them
reads : {o s : ℤ} → FitsSigned w64 o → FitsSigned w64 s → IsWithin greatest_orientation o →
    IsWithin greatest_difference s →
    (to_z w64 (of_z w64 (pos 2 *ℤ to_z w64 (of_z w64 o)))
    *ℤ to_z w64 (of_z w64 (to_z w64 (of_z w64 s) +ℤ pos 1)))
    ≡ pos 2 *ℤ o *ℤ (s +ℤ pos 1)
reads fo fs h k =
    same_product (read_as (same_product {a = pos 2} refl (read fo)) (twice h))
    (read_as (same_sum {b = pos 1} (read fs) refl) (way k))

whole : {o n s : ℤ} → IsWithin greatest_orientation o → IsWithin greatest_scalar n → IsWithin greatest_difference s →
    FitsSigned w64 (pos 2 *ℤ o *ℤ (s +ℤ pos 1) -ℤ n)
whole h i k =
    within_fits w64 (within_sub (within_mul (within_mul (within_self 2) h) (within_add k (within_self 1))) i) (lit< tt)

pub overflow_mul-result-2 : goal.overflow_mul-result-2
overflow_mul-result-2 c = let k = c.requires in fits_as (reads c.ranges.o c.ranges.s k.o k.s) (both k.o k.s)

pub overflow_sub-result : goal.overflow_sub-result
overflow_sub-result c =
    fits_as
    (same_difference
    (read_as (reads c.ranges.o c.ranges.s c.requires.o c.requires.s) (both c.requires.o c.requires.s))
    (read c.ranges.n))
    (whole c.requires.o c.requires.n c.requires.s)

pub returns : goal.returns
unfolding high_gap
returns c = record {
  value = read_as
      (same_difference
      (read_as (reads c.ranges.o c.ranges.s c.requires.o c.requires.s) (both c.requires.o c.requires.s))
      (read c.ranges.n))
      (whole c.requires.o c.requires.n c.requires.s);
}
