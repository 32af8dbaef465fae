use Rattle.std.proofs.Common.{ℤ, ◌+ℤ◌, ◌-ℤ◌, lit<}
use Rattle.std.specs.Int.{w128}
use Rattle.std.specs.Int.RustNames.{FitsSigned}
use Rattle.whole_ring.specs.Bounds.{IsWithin}
use Rattle.whole_ring.proofs.Cited.{fits_as, read, read_as, same_difference, same_sum, within_add, within_as}
use Rattle.whole_ring.proofs.Cited.{within_fits, within_sub}
use Rattle.exact_sphere.specs.Sizes.{greatest_sphere, greatest_term}
use Rattle.exact_sphere.proofs.alternating.Goals as goal

-- two terms fit, three, and all four
two : {p q : ℤ} → IsWithin greatest_term p → IsWithin greatest_term q → FitsSigned w128 (p -ℤ q)
two h k = within_fits w128 (within_sub h k) (lit< tt)

three : {p q r : ℤ} → IsWithin greatest_term p → IsWithin greatest_term q → IsWithin greatest_term r
    → FitsSigned w128 (p -ℤ q +ℤ r)
three h k l = within_fits w128 (within_add (within_sub h k) l) (lit< tt)

within_four : {p q r s : ℤ} → IsWithin greatest_term p → IsWithin greatest_term q → IsWithin greatest_term r
    → IsWithin greatest_term s → IsWithin greatest_sphere (p -ℤ q +ℤ r -ℤ s)
within_four h k l m = within_sub (within_add (within_sub h k) l) m

pub overflow_sub-result : goal.overflow_sub-result
overflow_sub-result c =
    fits_as (same_difference (read c.ranges.p) (read c.ranges.q)) (two c.requires.p c.requires.q)

pub overflow_add-result : goal.overflow_add-result
overflow_add-result c =
    let pq = read_as (same_difference (read c.ranges.p) (read c.ranges.q)) (two c.requires.p c.requires.q) in
    fits_as (same_sum pq (read c.ranges.r)) (three c.requires.p c.requires.q c.requires.r)

pub overflow_sub-result-2 : goal.overflow_sub-result-2
overflow_sub-result-2 c =
    let pq = read_as (same_difference (read c.ranges.p) (read c.ranges.q)) (two c.requires.p c.requires.q) in
    let pqr = read_as (same_sum pq (read c.ranges.r)) (three c.requires.p c.requires.q c.requires.r) in
    let all = within_four c.requires.p c.requires.q c.requires.r c.requires.s in
    fits_as (same_difference pqr (read c.ranges.s)) (within_fits w128 all (lit< tt))

pub returns-clause-value : goal.returns-clause-value
returns-clause-value c =
    let pq = read_as (same_difference (read c.ranges.p) (read c.ranges.q)) (two c.requires.p c.requires.q) in
    let pqr = read_as (same_sum pq (read c.ranges.r)) (three c.requires.p c.requires.q c.requires.r) in
    let all = within_four c.requires.p c.requires.q c.requires.r c.requires.s in
    read_as (same_difference pqr (read c.ranges.s)) (within_fits w128 all (lit< tt))

pub returns-clause-bound : goal.returns-clause-bound
returns-clause-bound c =
    within_as (returns-clause-value c) (within_four c.requires.p c.requires.q c.requires.r c.requires.s)
