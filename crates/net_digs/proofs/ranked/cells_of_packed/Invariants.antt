use Rattle.std.proofs.Common.{◌≡◌, take}
use Rattle.cell_slots.specs.Nets.{cells_of_slots}
use Rattle.net_digs.proofs.ranked.cells_of_packed.Given as goal

abbrev pub invariant-loop-slot : goal.invariant-loop-slot
invariant-loop-slot l = l.cells.items ≡ cells_of_slots (take l.slot-index l.packed)
