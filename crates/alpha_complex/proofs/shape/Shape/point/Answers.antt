use Rattle.std.proofs.Common.{ap, length, arith}
use Rattle.alpha_complex.proofs.SlotLaws.{point_count, points_as_seen}
use Rattle.alpha_complex.proofs.shape.Shape.point.Goals as goal

pub point_at-requires-clause-points : goal.point_at-requires-clause-points
point_at-requires-clause-points c =
    let n = points_as_seen c.self.inside c.args.self.now c.self.invariant c.self.view_is in
    let m = point_count c.self.inside c.self.invariant in
    let k = ap length c.points.ensures in
    omega (arith, c.requires, n, m, k)

pub point_at-requires-clause-kinds : goal.point_at-requires-clause-kinds
point_at-requires-clause-kinds c =
    let n = points_as_seen c.self.inside c.args.self.now c.self.invariant c.self.view_is in
    let k = ap length c.deref.ensures.value in
    omega (arith, c.requires, n, k)
