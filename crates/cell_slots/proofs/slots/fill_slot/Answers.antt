use Rattle.cell_slots.proofs.Nets.{live_put}
use Rattle.cell_slots.proofs.Moving.{count_put}
use Rattle.cell_slots.proofs.slots.fill_slot.Goals as goal

pub returns-clause-with_cell : goal.returns-clause-with_cell
returns-clause-with_cell c =
    let r = c.free_slot-place.ensures in
    rw c.fill.ensures (live_put c.args.slots.now c.free_slot-place.result c.args.cell.now r.0 r.1)

pub returns-clause-count : goal.returns-clause-count
returns-clause-count c =
    let r = c.free_slot-place.ensures in
    rw c.fill.ensures (count_put c.args.slots.now c.free_slot-place.result c.args.cell.now r.0 r.1)
