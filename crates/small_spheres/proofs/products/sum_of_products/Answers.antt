use Rattle.std.proofs.Common.{ℤ, ◌*ℤ◌, ◌+ℤ◌, lit<, w64}
use Rattle.std.specs.Int.RustNames.{FitsSigned}
use Rattle.whole_ring.specs.Bounds.{IsWithin}
use Rattle.whole_ring.proofs.Cited.{fits_as, read, read_as, same_product, same_sum, within_add, within_as, within_fits}
use Rattle.whole_ring.proofs.Cited.{within_mul}
use Rattle.point_order.specs.Sizes.{greatest_minor, greatest_square}
use Rattle.small_spheres.specs.Inside.{dot}
use Rattle.small_spheres.proofs.products.sum_of_products.Goals as goal

-- a product, a sum of two and a sum of three fit
product : {u x : ℤ} → IsWithin greatest_square u → IsWithin greatest_minor x → FitsSigned w64 (u *ℤ x)
product h k = within_fits w64 (within_mul h k) (lit< tt)

pair : {u v x y : ℤ} → IsWithin greatest_square u → IsWithin greatest_square v → IsWithin greatest_minor x
    → IsWithin greatest_minor y → FitsSigned w64 (u *ℤ x +ℤ v *ℤ y)
pair h k i j = within_fits w64 (within_add (within_mul h i) (within_mul k j)) (lit< tt)

triad : {u v w x y z : ℤ} → IsWithin greatest_square u → IsWithin greatest_square v → IsWithin greatest_square w
    → IsWithin greatest_minor x → IsWithin greatest_minor y → IsWithin greatest_minor z
    → FitsSigned w64 (u *ℤ x +ℤ v *ℤ y +ℤ w *ℤ z)
triad h k l i j m =
    within_fits w64 (within_add (within_add (within_mul h i) (within_mul k j)) (within_mul l m)) (lit< tt)

pub overflow_mul-result : goal.overflow_mul-result
overflow_mul-result c =
    fits_as (same_product (read c.ranges.ux) (read c.ranges.vx)) (product c.requires.ux c.requires.vx)

pub overflow_mul-result-2 : goal.overflow_mul-result-2
overflow_mul-result-2 c =
    fits_as (same_product (read c.ranges.uy) (read c.ranges.vy)) (product c.requires.uy c.requires.vy)

pub overflow_add-result : goal.overflow_add-result
overflow_add-result c =
    let first = read_as (same_product (read c.ranges.ux) (read c.ranges.vx)) (product c.requires.ux c.requires.vx) in
    let second = read_as (same_product (read c.ranges.uy) (read c.ranges.vy)) (product c.requires.uy c.requires.vy) in
    fits_as (same_sum first second) (pair c.requires.ux c.requires.uy c.requires.vx c.requires.vy)

pub overflow_mul-result-3 : goal.overflow_mul-result-3
overflow_mul-result-3 c =
    fits_as (same_product (read c.ranges.uz) (read c.ranges.vz)) (product c.requires.uz c.requires.vz)

pub overflow_add-result-2 : goal.overflow_add-result-2
overflow_add-result-2 c =
    let first = read_as (same_product (read c.ranges.ux) (read c.ranges.vx)) (product c.requires.ux c.requires.vx) in
    let second = read_as (same_product (read c.ranges.uy) (read c.ranges.vy)) (product c.requires.uy c.requires.vy) in
    let third = read_as (same_product (read c.ranges.uz) (read c.ranges.vz)) (product c.requires.uz c.requires.vz) in
    let two = read_as (same_sum first second) (pair c.requires.ux c.requires.uy c.requires.vx c.requires.vy) in
    fits_as
    (same_sum two third)
    (triad c.requires.ux c.requires.uy c.requires.uz c.requires.vx c.requires.vy c.requires.vz)

pub returns-clause-value : goal.returns-clause-value
unfolding dot
returns-clause-value c =
    let first = read_as (same_product (read c.ranges.ux) (read c.ranges.vx)) (product c.requires.ux c.requires.vx) in
    let second = read_as (same_product (read c.ranges.uy) (read c.ranges.vy)) (product c.requires.uy c.requires.vy) in
    let third = read_as (same_product (read c.ranges.uz) (read c.ranges.vz)) (product c.requires.uz c.requires.vz) in
    let two = read_as (same_sum first second) (pair c.requires.ux c.requires.uy c.requires.vx c.requires.vy) in
    read_as
    (same_sum two third)
    (triad c.requires.ux c.requires.uy c.requires.uz c.requires.vx c.requires.vy c.requires.vz)

pub returns-clause-bound : goal.returns-clause-bound
unfolding dot
returns-clause-bound c =
    within_as
    (returns-clause-value c)
    (within_add
    (within_add (within_mul c.requires.ux c.requires.vx) (within_mul c.requires.uy c.requires.vy))
    (within_mul c.requires.uz c.requires.vz))
