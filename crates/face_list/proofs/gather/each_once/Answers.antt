use Rattle.std.proofs.lemmas.List.Filters.{dedup_is}
use Rattle.list_laws.proofs.Cited.{deduped_same, deduped_sorted}
use Rattle.face_list.specs.Gather.{item_cmp}
use Rattle.face_list.proofs.Sorting.{item_order, item_exact, item_ties}
use Rattle.face_list.proofs.gather.each_once.Goals as goal

pub returns-clause-order : goal.returns-clause-order
returns-clause-order g c =
    let cmp = g.K.Ord.cmp in
    deduped_sorted (item_cmp cmp) (item_order g.met.K.Ord.total) _
    (item_ties cmp g.K.PartialEq.eq g.met.K.Ord.matches_eq) c.args.items.items c.dedup.new.self.items c.requires.order
    (dedup_is _ _ _ c.dedup.ensures.filtered)

pub returns-clause-same : goal.returns-clause-same
returns-clause-same g c =
    let cmp = g.K.Ord.cmp in
    deduped_same (item_cmp cmp) (item_order g.met.K.Ord.total) (item_exact c.requires.exact) _
    (item_ties cmp g.K.PartialEq.eq g.met.K.Ord.matches_eq) c.args.items.items c.dedup.new.self.items
    (dedup_is _ _ _ c.dedup.ensures.filtered)
