use Rattle.std.proofs.lemmas.List.Filters.{dedup_is}
use Rattle.list_laws.proofs.Cited.{numbers_ascend, numbers_same}
use Rattle.point_order.proofs.order.points_in_order.Goals as goal

pub returns-clause-order : goal.returns-clause-order
returns-clause-order c =
    numbers_ascend c.sort_unstable.new.self.items c.dedup.new.self.items c.sort_unstable.ensures.sorted
    (dedup_is _ _ _ c.dedup.ensures.filtered)

pub returns-clause-points : goal.returns-clause-points
returns-clause-points c = λ e.
    let s = numbers_same c.args.points.items c.sort_unstable.new.self.items c.dedup.new.self.items
    c.sort_unstable.ensures.permutation (dedup_is _ _ _ c.dedup.ensures.filtered) e in
    (s.1, s.0)
