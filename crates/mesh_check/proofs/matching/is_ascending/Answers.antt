use Rattle.std.proofs.Common.{◌<◌, ◌≤◌, arith, refl}
use Rattle.mesh_check.proofs.Listed.{ascends, falls_there, next_below}
use Rattle.mesh_check.proofs.matching.is_ascending.Goals as goal

pub loop-place-preserved : goal.loop-place-preserved
loop-place-preserved c =
    let x = c.index-points-place-in-loop-place.result in
    let y = c.index-points-place.result in
    let less : x < y = (let h = c.if-key.false in let m = c.key-in-loop-place.ensures.value in
    let n = c.key.ensures.value in omega (arith, h, m, n)) in
    next_below c.args.points.now c.loop-place.place x y c.loop-place.invariant c.loop-place.auto.place
    c.loop-place-test.true c.index-points-place-in-loop-place.is c.index-points-place.is less

pub returns-then-key : goal.returns-then-key
returns-then-key c =
    let x = c.index-points-place-in-loop-place.result in
    let y = c.index-points-place.result in
    let high : y ≤ x = (let h = c.if-key.true in let m = c.key-in-loop-place.ensures.value in
    let n = c.key.ensures.value in omega (arith, h, m, n)) in (
      λ e. absurd (cc),
      λ a. absurd (falls_there c.args.points.now c.loop-place.place x y c.loop-place.auto.place c.loop-place-test.true
          c.index-points-place-in-loop-place.is c.index-points-place.is high a),
    )

pub returns : goal.returns
returns c = (
  λ e. ascends c.args.points.now
      (λ k d h. c.loop-place.invariant k d (let l = c.loop-place-test.false in omega (arith, h, l))),
  λ a. refl,
)
