use Rattle.std.proofs.lemmas.List.Filters.{dedup_is}
use Rattle.list_laws.proofs.Cited.{numbers_ascend, numbers_same}
use Rattle.cell_stars.proofs.order.numbers_in_order.Goals as goal

pub returns-clause-order : goal.returns-clause-order
returns-clause-order c =
    numbers_ascend c.sort_unstable.new.self.items c.dedup.new.self.items c.sort_unstable.ensures.sorted
    (dedup_is _ _ _ c.dedup.ensures.filtered)

pub returns-clause-same : goal.returns-clause-same
returns-clause-same c =
    numbers_same c.args.list.items c.sort_unstable.new.self.items c.dedup.new.self.items
    c.sort_unstable.ensures.permutation (dedup_is _ _ _ c.dedup.ensures.filtered)
