use Rattle.std.proofs.Common.{subst, sym, not, ◌==◌}
use Rattle.list_laws.proofs.Cited.{filtered_ascending}
use Rattle.point_order.specs.Sets.{IsAscending}
use Rattle.cell_store.proofs.bucket.Bucket.drop_point.Goals as goal

pub invariant_of-self : goal.invariant_of-self
invariant_of-self c = subst IsAscending (sym c.take_out.ensures.points)
    (filtered_ascending (λ q. not (q == c.args.p)) c.self.inside.points.items c.self.invariant)
