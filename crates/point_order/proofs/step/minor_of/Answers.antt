use Rattle.std.proofs.Common.{ℤ, ◌*ℤ◌, ◌-ℤ◌, lit<, w64}
use Rattle.std.specs.Int.RustNames.{FitsSigned}
use Rattle.whole_ring.specs.Bounds.{IsWithin}
use Rattle.whole_ring.proofs.Cited.{fits_as, read, read_as, same_difference, same_product, within_as, within_fits}
use Rattle.whole_ring.proofs.Cited.{within_mul, within_sub}
use Rattle.point_order.specs.Orientation.{minor}
use Rattle.point_order.specs.Sizes.{greatest_difference}
use Rattle.point_order.proofs.step.minor_of.Goals as goal

-- a product and a difference of two fit
product : {p s : ℤ} → IsWithin greatest_difference p → IsWithin greatest_difference s → FitsSigned w64 (p *ℤ s)
product h k = within_fits w64 (within_mul h k) (lit< tt)

both : {p q r s : ℤ} → IsWithin greatest_difference p → IsWithin greatest_difference q
    → IsWithin greatest_difference r → IsWithin greatest_difference s → FitsSigned w64 (p *ℤ s -ℤ q *ℤ r)
both h k i j = within_fits w64 (within_sub (within_mul h j) (within_mul k i)) (lit< tt)

pub overflow_mul-result : goal.overflow_mul-result
overflow_mul-result c =
    fits_as (same_product (read c.ranges.p) (read c.ranges.s)) (product c.requires.first c.requires.fourth)

pub overflow_mul-result-2 : goal.overflow_mul-result-2
overflow_mul-result-2 c =
    fits_as (same_product (read c.ranges.q) (read c.ranges.r)) (product c.requires.second c.requires.third)

pub overflow_sub-result : goal.overflow_sub-result
overflow_sub-result c =
    let first =
    read_as (same_product (read c.ranges.p) (read c.ranges.s)) (product c.requires.first c.requires.fourth) in
    let second =
    read_as (same_product (read c.ranges.q) (read c.ranges.r)) (product c.requires.second c.requires.third) in
    fits_as (same_difference first second) (both c.requires.first c.requires.second c.requires.third c.requires.fourth)

pub returns-clause-value : goal.returns-clause-value
unfolding minor
returns-clause-value c =
    let first =
    read_as (same_product (read c.ranges.p) (read c.ranges.s)) (product c.requires.first c.requires.fourth) in
    let second =
    read_as (same_product (read c.ranges.q) (read c.ranges.r)) (product c.requires.second c.requires.third) in
    read_as (same_difference first second) (both c.requires.first c.requires.second c.requires.third c.requires.fourth)

pub returns-clause-bound : goal.returns-clause-bound
unfolding minor
returns-clause-bound c =
    within_as
    (returns-clause-value c)
    (within_sub (within_mul c.requires.first c.requires.fourth) (within_mul c.requires.second c.requires.third))
