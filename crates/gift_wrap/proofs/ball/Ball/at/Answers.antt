use Rattle.std.proofs.Common.{◌∙◌, sym, lit<, w64}
use Rattle.std.specs.Int.{w128}
use Rattle.whole_ring.proofs.Cited.{read, same_difference, same_product, within_fits}
use Rattle.point_order.proofs.Cited.{distance_from}
use Rattle.gift_wrap.proofs.ball.Ball.at.Goals as goal

pub returns : goal.returns
returns c =
    let a = c.args.a in
    let e = c.args.e in
    let ball = c.requires in
    let step = c.between-t in
    let t = step.ensures in
    let square = read (within_fits w64 c.square.ensures.bound (lit< tt)) ∙ c.square.ensures.value
    ∙ distance_from a e t.x t.y t.z in
    let height = same_product (read (within_fits w64 ball.height_within (lit< tt))) square in
    let x = same_product (read (within_fits w64 ball.x_within (lit< tt)))
    (read (within_fits w64 step.result.x_within (lit< tt)) ∙ t.x) in
    let y = same_product (read (within_fits w64 ball.y_within (lit< tt)))
    (read (within_fits w64 step.result.y_within (lit< tt)) ∙ t.y) in
    let z = same_product (read (within_fits w64 ball.z_within (lit< tt)))
    (read (within_fits w64 step.result.z_within (lit< tt)) ∙ t.z) in
    read {w = w128} (record { sfits = c.less_three.type_inv }) ∙ c.less_three.ensures
    ∙ same_difference (same_difference (same_difference
    (read {w = w128} (record { sfits = c.term.type_inv }) ∙ c.term.ensures.value ∙ height)
    (read {w = w128} (record { sfits = c.term-2.type_inv }) ∙ c.term-2.ensures.value ∙ x))
    (read {w = w128} (record { sfits = c.term-3.type_inv }) ∙ c.term-3.ensures.value ∙ y))
    (read {w = w128} (record { sfits = c.term-4.type_inv }) ∙ c.term-4.ensures.value ∙ z) ∙ sym (ball.value e)
