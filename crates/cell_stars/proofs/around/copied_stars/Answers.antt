use Rattle.cell_stars.proofs.Planned.{copied_more}
use Rattle.cell_stars.proofs.around.copied_stars.Goals as goal

pub loop-around-init : goal.loop-around-init
loop-around-init c = c.in_ok-list.ensures.items

pub loop-around-preserved : goal.loop-around-preserved
loop-around-preserved c = copied_more c.args.stars.now c.loop-around.around-index c.around-item.result
    c.in_ok-copied_star.field-0 c.loop-around.list.items c.push.new.self.items c.loop-around-test.true c.around-item.is
    c.in_ok-push.ensures.items c.in_ok-copied_star.ensures c.loop-around.invariant
