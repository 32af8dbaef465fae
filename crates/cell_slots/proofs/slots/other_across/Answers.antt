use Rattle.std.proofs.Common.{arith}
use Rattle.cell_slots.proofs.Nets.{live_from}
use Rattle.cell_slots.proofs.slots.other_across.Goals as goal

pub unreachable-requires : goal.unreachable-requires
unreachable-requires c =
    let r = c.requires in
    let h = live_from c.args.slots.now r.0 r.1.listed in
    c.loop-i.invariant h.i (omega (arith, h.below, c.loop-i-test.false)) r.0 h.at r.1
