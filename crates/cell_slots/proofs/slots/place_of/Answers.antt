use Rattle.std.proofs.Common.{arith}
use Rattle.cell_slots.proofs.Nets.{live_from}
use Rattle.cell_slots.proofs.slots.place_of.Goals as goal

pub unreachable-requires : goal.unreachable-requires
unreachable-requires c =
    let h = live_from c.args.slots.now c.args.cell.now c.requires in
    c.loop-i.invariant h.i (omega (arith, h.below, c.loop-i-test.false)) h.at
