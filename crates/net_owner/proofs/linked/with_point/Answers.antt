use Rattle.std.proofs.Common.{arith}
use Rattle.del_laws.proofs.Cited.{listed_every_point}
use Rattle.point_order.specs.declared.cell.Cell.TheVariants.{Full}
use Rattle.cell_slots.proofs.Cited.{live_from}
use Rattle.net_owner.proofs.linked.with_point.Goals as goal

pub unreachable-requires : goal.unreachable-requires
unreachable-requires c =
    let r = c.requires in
    let i = r.1.solid in
    let h = listed_every_point r.0 c.args.v i.set.ascending i.set.keys i.solid r.2 in
    let p = live_from c.args.net.now (Full h.q) ((r.1.members (Full h.q)).1 h.listed) in
    c.loop-i.invariant p.i (omega (arith, p.below, c.len-i-end.ensures, c.loop-i-test.false)) (Full h.q) p.at h.has
