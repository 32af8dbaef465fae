use Rattle.std.proofs.Common.{refl}
use Rattle.cell_stars.proofs.Planned.{slots_more}
use Rattle.cell_stars.proofs.planner.add_slots.Goals as goal

pub loop-list-init : goal.loop-list-init
loop-list-init c i = refl

pub loop-list-preserved : goal.loop-list-preserved
loop-list-preserved c =
    slots_more c.args.list.now.items c.loop-list.list.items c.push.new.self.items c.new.result c.new.ensures
    c.in_ok-push.ensures.items c.loop-list.invariant
