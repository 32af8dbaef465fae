use Rattle.cell_stars.proofs.Planned.{copied_more}
use Rattle.cell_stars.proofs.slots.copied_slots.Goals as goal

pub loop-slot-init : goal.loop-slot-init
loop-slot-init c = c.in_ok-list.ensures.items

pub loop-slot-preserved : goal.loop-slot-preserved
loop-slot-preserved c =
    copied_more c.args.slots.now c.loop-slot.slot-index c.slot-item.result c.copied.result c.loop-slot.list.items
    c.push.new.self.items c.loop-slot-test.true c.slot-item.is c.in_ok-push.ensures.items c.copied.ensures
    c.loop-slot.invariant
