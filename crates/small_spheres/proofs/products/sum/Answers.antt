use Rattle.std.proofs.Common.{◌≡◌, ℤ, ◌+ℤ◌, lit<, to_z, of_z}
use Rattle.std.specs.Int.{w128}
use Rattle.std.specs.Int.RustNames.{FitsSigned}
use Rattle.whole_ring.specs.Bounds.{IsWithin}
use Rattle.whole_ring.proofs.Cited.{fits_as, read, read_as, same_sum, within_add, within_as, within_fits}
use Rattle.small_spheres.specs.Sizes.{greatest_square_of_scalar}
use Rattle.small_spheres.proofs.products.sum.Goals as goal

-- two terms fit, and three
two : {p q : ℤ} → IsWithin greatest_square_of_scalar p → IsWithin greatest_square_of_scalar q → FitsSigned w128 (p +ℤ q)
two h k = within_fits w128 (within_add h k) (lit< tt)

three : {p q r : ℤ} → IsWithin greatest_square_of_scalar p → IsWithin greatest_square_of_scalar q
    → IsWithin greatest_square_of_scalar r → FitsSigned w128 (p +ℤ q +ℤ r)
three h k l = within_fits w128 (within_add (within_add h k) l) (lit< tt)

-- what is read is the sum
reads : {p q r : ℤ} → FitsSigned w128 p → FitsSigned w128 q → FitsSigned w128 r
    → IsWithin greatest_square_of_scalar p → IsWithin greatest_square_of_scalar q
    → (to_z w128 (of_z w128 (to_z w128 (of_z w128 p) +ℤ to_z w128 (of_z w128 q))) +ℤ to_z w128 (of_z w128 r))
    ≡ p +ℤ q +ℤ r
reads fp fq fr h k = same_sum (read_as (same_sum (read fp) (read fq)) (two h k)) (read fr)

pub overflow_add-result : goal.overflow_add-result
overflow_add-result c = fits_as (same_sum (read c.ranges.p) (read c.ranges.q)) (two c.requires.p c.requires.q)

pub overflow_add-result-2 : goal.overflow_add-result-2
overflow_add-result-2 c =
    fits_as
    (reads c.ranges.p c.ranges.q c.ranges.r c.requires.p c.requires.q)
    (three c.requires.p c.requires.q c.requires.r)

pub returns-clause-value : goal.returns-clause-value
returns-clause-value c =
    read_as
    (reads c.ranges.p c.ranges.q c.ranges.r c.requires.p c.requires.q)
    (three c.requires.p c.requires.q c.requires.r)

pub returns-clause-bound : goal.returns-clause-bound
returns-clause-bound c =
    within_as (returns-clause-value c) (within_add (within_add c.requires.p c.requires.q) c.requires.r)
