use Rattle.std.specs.Mem.Slots.{slots_items, slots_filled, slots_len}
use Rattle.claim_table.specs.Homing.{IsGathering}
use Rattle.claim_table.proofs.homing.gather.Given as goal

abbrev pub invariant-loop-b : goal.invariant-loop-b
invariant-loop-b l =
    IsGathering (slots_items l.initial.closed.slots) (slots_items l.closed.slots) (slots_len l.initial.closed.slots)
    (slots_len l.closed.slots) (slots_filled l.closed.slots) l.initial.hold l.hold l.b
