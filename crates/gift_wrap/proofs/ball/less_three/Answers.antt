use Rattle.std.proofs.Common.{ℤ, ◌-ℤ◌, lit<}
use Rattle.std.specs.Int.{w128}
use Rattle.std.specs.Int.RustNames.{FitsSigned}
use Rattle.whole_ring.specs.Bounds.{IsWithin}
use Rattle.whole_ring.proofs.Cited.{fits_as, read, read_as, same_difference, within_fits, within_sub}
use Rattle.gift_wrap.specs.Balls.{greatest_ball_term}
use Rattle.gift_wrap.proofs.ball.less_three.Goals as goal

-- two terms fit, three, and all four
two : {p q : ℤ} → IsWithin greatest_ball_term p → IsWithin greatest_ball_term q → FitsSigned w128 (p -ℤ q)
two h k = within_fits w128 (within_sub h k) (lit< tt)

-- three terms
three : {p q r : ℤ} → IsWithin greatest_ball_term p → IsWithin greatest_ball_term q → IsWithin greatest_ball_term r
    → FitsSigned w128 (p -ℤ q -ℤ r)
three h k l = within_fits w128 (within_sub (within_sub h k) l) (lit< tt)

-- all four
four : {p q r s : ℤ} → IsWithin greatest_ball_term p → IsWithin greatest_ball_term q → IsWithin greatest_ball_term r
    → IsWithin greatest_ball_term s → FitsSigned w128 (p -ℤ q -ℤ r -ℤ s)
four h k l m = within_fits w128 (within_sub (within_sub (within_sub h k) l) m) (lit< tt)

pub overflow_sub-result : goal.overflow_sub-result
overflow_sub-result c =
    fits_as (same_difference (read c.ranges.p) (read c.ranges.q)) (two c.requires.p c.requires.q)

pub overflow_sub-result-2 : goal.overflow_sub-result-2
overflow_sub-result-2 c =
    let pq = read_as (same_difference (read c.ranges.p) (read c.ranges.q)) (two c.requires.p c.requires.q) in
    fits_as (same_difference pq (read c.ranges.r)) (three c.requires.p c.requires.q c.requires.r)

pub overflow_sub-result-3 : goal.overflow_sub-result-3
overflow_sub-result-3 c =
    let pq = read_as (same_difference (read c.ranges.p) (read c.ranges.q)) (two c.requires.p c.requires.q) in
    let pqr = read_as (same_difference pq (read c.ranges.r)) (three c.requires.p c.requires.q c.requires.r) in
    fits_as (same_difference pqr (read c.ranges.s)) (four c.requires.p c.requires.q c.requires.r c.requires.s)

pub returns : goal.returns
returns c =
    let pq = read_as (same_difference (read c.ranges.p) (read c.ranges.q)) (two c.requires.p c.requires.q) in
    let pqr = read_as (same_difference pq (read c.ranges.r)) (three c.requires.p c.requires.q c.requires.r) in
    read_as (same_difference pqr (read c.ranges.s)) (four c.requires.p c.requires.q c.requires.r c.requires.s)
