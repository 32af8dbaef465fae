use Rattle.std.proofs.Common.{◌≡◌, ℤ, ◌-ℤ◌, lit<, to_z, of_z}
use Rattle.std.specs.Int.{w128}
use Rattle.std.specs.Int.RustNames.{FitsSigned}
use Rattle.whole_ring.specs.Bounds.{IsWithin}
use Rattle.whole_ring.proofs.Cited.{fits_as, read, read_as, same_difference, within_sub, within_fits}
use Rattle.small_spheres.specs.Sizes.{greatest_power_term}
use Rattle.small_spheres.proofs.products.difference.Goals as goal

-- two terms fit, and three
two : {p q : ℤ} → IsWithin greatest_power_term p → IsWithin greatest_power_term q → FitsSigned w128 (p -ℤ q)
two h k = within_fits w128 (within_sub h k) (lit< tt)

three : {p q r : ℤ} → IsWithin greatest_power_term p → IsWithin greatest_power_term q
    → IsWithin greatest_power_term r → FitsSigned w128 (p -ℤ q -ℤ r)
three h k l = within_fits w128 (within_sub (within_sub h k) l) (lit< tt)

-- what is read is the difference
reads : {p q r : ℤ} → FitsSigned w128 p → FitsSigned w128 q → FitsSigned w128 r → IsWithin greatest_power_term p
    → IsWithin greatest_power_term q
    → (to_z w128 (of_z w128 (to_z w128 (of_z w128 p) -ℤ to_z w128 (of_z w128 q))) -ℤ to_z w128 (of_z w128 r))
    ≡ p -ℤ q -ℤ r
reads fp fq fr h k = same_difference (read_as (same_difference (read fp) (read fq)) (two h k)) (read fr)

pub overflow_sub-result : goal.overflow_sub-result
overflow_sub-result c = fits_as (same_difference (read c.ranges.p) (read c.ranges.q)) (two c.requires.p c.requires.q)

pub overflow_sub-result-2 : goal.overflow_sub-result-2
overflow_sub-result-2 c =
    fits_as
    (reads c.ranges.p c.ranges.q c.ranges.r c.requires.p c.requires.q)
    (three c.requires.p c.requires.q c.requires.r)

pub returns : goal.returns
returns c =
    read_as
    (reads c.ranges.p c.ranges.q c.ranges.r c.requires.p c.requires.q)
    (three c.requires.p c.requires.q c.requires.r)
