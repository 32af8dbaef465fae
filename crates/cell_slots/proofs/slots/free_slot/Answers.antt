use Rattle.std.proofs.Common.{arith}
use Rattle.cell_slots.proofs.Moving.{some_free}
use Rattle.cell_slots.proofs.slots.free_slot.Goals as goal

pub unreachable-requires : goal.unreachable-requires
unreachable-requires c =
    let h = some_free c.args.slots.now c.requires in
    c.loop-i.invariant h.i (omega (arith, h.below, c.loop-i-test.false)) h.at
