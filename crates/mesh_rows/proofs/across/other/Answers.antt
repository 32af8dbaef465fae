use Rattle.std.proofs.Common.{arith}
use Rattle.mesh_rows.proofs.across.other.Goals as goal

pub unreachable-requires : goal.unreachable-requires
unreachable-requires c =
    let r = c.requires in
    let h = r.1.0 in
    c.loop-m.invariant r.0 (omega (arith, h, c.loop-m-test.false)) r.1
