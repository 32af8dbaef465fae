use Rattle.std.proofs.Common.{ℤ, ◌*ℤ◌, ◌+ℤ◌, lit<, w64}
use Rattle.std.specs.Int.RustNames.{FitsSigned}
use Rattle.whole_ring.specs.Bounds.{IsWithin}
use Rattle.whole_ring.proofs.Cited.{fits_as, read, read_as, same_product, same_sum, within_add, within_as, within_fits}
use Rattle.whole_ring.proofs.Cited.{within_mul}
use Rattle.point_order.specs.Orientation.{square_of_step}
use Rattle.point_order.specs.Sizes.{greatest_difference}
use Rattle.point_order.proofs.step.norm.Goals as goal

-- a product, a sum of two and a sum of three fit
product : {u x : ℤ} → IsWithin greatest_difference u → IsWithin greatest_difference x → FitsSigned w64 (u *ℤ x)
product h k = within_fits w64 (within_mul h k) (lit< tt)

pair : {u v x y : ℤ} → IsWithin greatest_difference u → IsWithin greatest_difference v
    → IsWithin greatest_difference x → IsWithin greatest_difference y → FitsSigned w64 (u *ℤ x +ℤ v *ℤ y)
pair h k i j = within_fits w64 (within_add (within_mul h i) (within_mul k j)) (lit< tt)

triad : {u v w x y z : ℤ} → IsWithin greatest_difference u → IsWithin greatest_difference v
    → IsWithin greatest_difference w → IsWithin greatest_difference x → IsWithin greatest_difference y
    → IsWithin greatest_difference z → FitsSigned w64 (u *ℤ x +ℤ v *ℤ y +ℤ w *ℤ z)
triad h k l i j m =
    within_fits w64 (within_add (within_add (within_mul h i) (within_mul k j)) (within_mul l m)) (lit< tt)

pub overflow_mul-result : goal.overflow_mul-result
overflow_mul-result c =
    fits_as (same_product (read c.ranges.x) (read c.ranges.x)) (product c.requires.x_bound c.requires.x_bound)

pub overflow_mul-result-2 : goal.overflow_mul-result-2
overflow_mul-result-2 c =
    fits_as (same_product (read c.ranges.y) (read c.ranges.y)) (product c.requires.y_bound c.requires.y_bound)

pub overflow_add-result : goal.overflow_add-result
overflow_add-result c =
    let first =
    read_as (same_product (read c.ranges.x) (read c.ranges.x)) (product c.requires.x_bound c.requires.x_bound) in
    let second =
    read_as (same_product (read c.ranges.y) (read c.ranges.y)) (product c.requires.y_bound c.requires.y_bound) in
    fits_as (same_sum first second) (pair c.requires.x_bound c.requires.y_bound c.requires.x_bound c.requires.y_bound)

pub overflow_mul-result-3 : goal.overflow_mul-result-3
overflow_mul-result-3 c =
    fits_as (same_product (read c.ranges.z) (read c.ranges.z)) (product c.requires.z_bound c.requires.z_bound)

-- the sum of three squares fits
pub overflow_add-result-2 : goal.overflow_add-result-2
overflow_add-result-2 c =
    let first =
    read_as (same_product (read c.ranges.x) (read c.ranges.x)) (product c.requires.x_bound c.requires.x_bound) in
    let second =
    read_as (same_product (read c.ranges.y) (read c.ranges.y)) (product c.requires.y_bound c.requires.y_bound) in
    let third =
    read_as (same_product (read c.ranges.z) (read c.ranges.z)) (product c.requires.z_bound c.requires.z_bound) in
    let two =
    read_as
    (same_sum first second)
    (pair c.requires.x_bound c.requires.y_bound c.requires.x_bound c.requires.y_bound) in
    fits_as
    (same_sum two third)
    (triad c.requires.x_bound c.requires.y_bound c.requires.z_bound
    c.requires.x_bound c.requires.y_bound c.requires.z_bound)

-- it is the square of the step
pub returns-clause-value : goal.returns-clause-value
unfolding square_of_step
returns-clause-value c =
    let first =
    read_as (same_product (read c.ranges.x) (read c.ranges.x)) (product c.requires.x_bound c.requires.x_bound) in
    let second =
    read_as (same_product (read c.ranges.y) (read c.ranges.y)) (product c.requires.y_bound c.requires.y_bound) in
    let third =
    read_as (same_product (read c.ranges.z) (read c.ranges.z)) (product c.requires.z_bound c.requires.z_bound) in
    let two =
    read_as
    (same_sum first second)
    (pair c.requires.x_bound c.requires.y_bound c.requires.x_bound c.requires.y_bound) in
    read_as
    (same_sum two third)
    (triad c.requires.x_bound c.requires.y_bound c.requires.z_bound
    c.requires.x_bound c.requires.y_bound c.requires.z_bound)

pub returns-clause-bound : goal.returns-clause-bound
unfolding square_of_step
returns-clause-bound c =
    within_as
    (returns-clause-value c)
    (within_add
    (within_add (within_mul c.requires.x_bound c.requires.x_bound) (within_mul c.requires.y_bound c.requires.y_bound))
    (within_mul c.requires.z_bound c.requires.z_bound))
