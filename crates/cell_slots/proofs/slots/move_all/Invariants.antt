use Rattle.std.proofs.Common.{◌++◌, length}
use Rattle.cell_slots.specs.Nets.{AreMoved, cells_of_slots}
use Rattle.cell_slots.proofs.slots.move_all.Given as goal

abbrev pub invariant-loop-slot : goal.invariant-loop-slot
invariant-loop-slot l =
    AreMoved (cells_of_slots l.initial.slots.items ++ cells_of_slots l.initial.packed.items)
    (cells_of_slots l.slots.items ++ cells_of_slots l.packed.items)

abbrev pub decreases-loop-slot : goal.decreases-loop-slot
decreases-loop-slot l = length l.slots.items
