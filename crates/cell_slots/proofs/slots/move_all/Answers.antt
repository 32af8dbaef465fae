use Rattle.std.proofs.Common.{subst, List, Option, ◌++◌}
use Rattle.point_order.specs.declared.cell.Cell.{Cell}
use Rattle.cell_slots.specs.Nets.{AreMoved, cells_of_slots}
use Rattle.cell_slots.proofs.Marks.{move_one}
use Rattle.cell_slots.proofs.slots.move_all.Goals as goal

pub loop-slot-preserved : goal.loop-slot-preserved
loop-slot-preserved c =
    let packed = c.loop-slot.packed.items in
    let all = cells_of_slots c.args.slots.items ++ cells_of_slots c.args.packed.now.items in
    rw (c.in_ok-move_slot.ensures.slots, c.in_ok-move_slot.ensures.packed)
    (move_one all c.pop.new.self.items packed c.in-Some.slot
    (subst (λ (v : List (Option Cell)). AreMoved all (cells_of_slots v ++ cells_of_slots packed))
    c.in-Some.ensures.items c.loop-slot.invariant))
