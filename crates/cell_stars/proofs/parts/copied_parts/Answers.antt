use Rattle.cell_stars.proofs.Planned.{copied_more}
use Rattle.cell_stars.proofs.parts.copied_parts.Goals as goal

pub loop-part-init : goal.loop-part-init
loop-part-init c = c.in_ok-list.ensures.items

pub loop-part-preserved : goal.loop-part-preserved
loop-part-preserved c = copied_more c.args.parts.now c.loop-part.part-index c.part-item.result
    c.in_ok-copied_part.field-0 c.loop-part.list.items c.push.new.self.items c.loop-part-test.true c.part-item.is
    c.in_ok-push.ensures.items c.in_ok-copied_part.ensures c.loop-part.invariant
