use Rattle.std.proofs.Common.{subst, sym}
use Rattle.point_order.specs.Sets.{IsAscending}
use Rattle.point_order.proofs.Cited.{ascending_with}
use Rattle.cell_store.proofs.bucket.Bucket.put_point.Goals as goal

pub invariant_of-self : goal.invariant_of-self
invariant_of-self c = subst IsAscending (sym c.put_in.ensures.points)
    (ascending_with c.args.p c.self.inside.points.items c.self.invariant)
