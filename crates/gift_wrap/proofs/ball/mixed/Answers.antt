use Rattle.std.proofs.Common.{ℤ, ◌*ℤ◌, ◌+ℤ◌, ◌-ℤ◌, lit<, w64}
use Rattle.std.specs.Int.RustNames.{FitsSigned}
use Rattle.whole_ring.specs.Bounds.{IsWithin}
use Rattle.whole_ring.proofs.Cited.{fits_as, read, read_as, same_difference, same_product, same_sum, within_add}
use Rattle.whole_ring.proofs.Cited.{within_as, within_fits, within_mul, within_sub}
use Rattle.point_order.specs.Sizes.{greatest_minor, greatest_square}
use Rattle.gift_wrap.specs.Balls.{greatest_mixed}
use Rattle.gift_wrap.proofs.ball.mixed.Goals as goal

-- a product fits
product : {p k : ℤ} → IsWithin greatest_minor p → IsWithin greatest_square k → FitsSigned w64 (p *ℤ k)
product h k = within_fits w64 (within_mul h k) (lit< tt)

-- and a difference of two
pair : {p k q l : ℤ} → IsWithin greatest_minor p → IsWithin greatest_square k → IsWithin greatest_minor q
    → IsWithin greatest_square l → FitsSigned w64 (p *ℤ k -ℤ q *ℤ l)
pair h i j k = within_fits w64 (within_sub (within_mul h i) (within_mul j k)) (lit< tt)

-- the size of all three
size : {p k q l r m : ℤ} → IsWithin greatest_minor p → IsWithin greatest_square k → IsWithin greatest_minor q
    → IsWithin greatest_square l → IsWithin greatest_minor r → IsWithin greatest_square m
    → IsWithin greatest_mixed (p *ℤ k -ℤ q *ℤ l +ℤ r *ℤ m)
size h i j k l m = within_add (within_sub (within_mul h i) (within_mul j k)) (within_mul l m)

pub overflow_mul-result : goal.overflow_mul-result
overflow_mul-result c =
    fits_as (same_product (read c.ranges.p) (read c.ranges.k)) (product c.requires.p c.requires.k)

pub overflow_mul-result-2 : goal.overflow_mul-result-2
overflow_mul-result-2 c =
    fits_as (same_product (read c.ranges.q) (read c.ranges.l)) (product c.requires.q c.requires.l)

pub overflow_sub-result : goal.overflow_sub-result
overflow_sub-result c =
    let first = read_as (same_product (read c.ranges.p) (read c.ranges.k)) (product c.requires.p c.requires.k) in
    let second = read_as (same_product (read c.ranges.q) (read c.ranges.l)) (product c.requires.q c.requires.l) in
    fits_as (same_difference first second) (pair c.requires.p c.requires.k c.requires.q c.requires.l)

pub overflow_mul-result-3 : goal.overflow_mul-result-3
overflow_mul-result-3 c =
    fits_as (same_product (read c.ranges.r) (read c.ranges.m)) (product c.requires.r c.requires.m)

pub overflow_add-result : goal.overflow_add-result
overflow_add-result c =
    let first = read_as (same_product (read c.ranges.p) (read c.ranges.k)) (product c.requires.p c.requires.k) in
    let second = read_as (same_product (read c.ranges.q) (read c.ranges.l)) (product c.requires.q c.requires.l) in
    let third = read_as (same_product (read c.ranges.r) (read c.ranges.m)) (product c.requires.r c.requires.m) in
    let two = read_as (same_difference first second) (pair c.requires.p c.requires.k c.requires.q c.requires.l) in
    fits_as (same_sum two third) (within_fits w64 (size c.requires.p c.requires.k c.requires.q c.requires.l
    c.requires.r c.requires.m) (lit< tt))

pub returns-clause-value : goal.returns-clause-value
returns-clause-value c =
    let first = read_as (same_product (read c.ranges.p) (read c.ranges.k)) (product c.requires.p c.requires.k) in
    let second = read_as (same_product (read c.ranges.q) (read c.ranges.l)) (product c.requires.q c.requires.l) in
    let third = read_as (same_product (read c.ranges.r) (read c.ranges.m)) (product c.requires.r c.requires.m) in
    let two = read_as (same_difference first second) (pair c.requires.p c.requires.k c.requires.q c.requires.l) in
    read_as (same_sum two third) (within_fits w64 (size c.requires.p c.requires.k c.requires.q c.requires.l
    c.requires.r c.requires.m) (lit< tt))

pub returns-clause-bound : goal.returns-clause-bound
returns-clause-bound c =
    within_as (returns-clause-value c) (size c.requires.p c.requires.k c.requires.q c.requires.l c.requires.r
    c.requires.m)
