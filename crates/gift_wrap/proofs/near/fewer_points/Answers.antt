use Rattle.std.proofs.Common.{subst, List, ℕ}
use Rattle.std.proofs.lemmas.List.{take_all}
use Rattle.point_order.specs.Sets.{AreSamePoints}
use Rattle.gift_wrap.proofs.Points.{same_more}
use Rattle.gift_wrap.proofs.near.fewer_points.Goals as goal

pub loop-p-preserved : goal.loop-p-preserved
loop-p-preserved c =
    same_more c.args.points.now c.loop-p.p-index c.p-item.result c.loop-p.fewer.items c.add_point.new.points.items
    c.loop-p-test.true c.p-item.is c.in_ok-add_point.ensures c.loop-p.invariant

pub returns : goal.returns
returns c =
    subst (λ (l : List ℕ). AreSamePoints l c.loop-p.fewer.items)
    (take_all c.loop-p.p-index c.args.points.now c.loop-p-test.false) c.loop-p.invariant
