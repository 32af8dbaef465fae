use Rattle.std.proofs.Common.{◌≡◌, take}
use Rattle.cell_stars.proofs.slots.copied_slots.Given as goal

abbrev pub invariant-loop-slot : goal.invariant-loop-slot
invariant-loop-slot l = l.list.items ≡ take l.slot-index l.slots
