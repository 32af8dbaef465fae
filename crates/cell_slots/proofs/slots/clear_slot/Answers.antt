use Rattle.cell_slots.proofs.Nets.{live_less}
use Rattle.cell_slots.proofs.slots.clear_slot.Goals as goal

pub returns-then-place-len-clause-taken : goal.returns-then-place-len-clause-taken
returns-then-place-len-clause-taken c =
    rw c.clear.ensures
    (live_less c.args.slots.now c.place_of-place.result c.args.cell.now c.place_of-place.ensures)
