use Rattle.std.proofs.Common.{sym, ap, subst, ◌∙◌, drop, length}
use Rattle.std.specs.List.Sorted.{IsSorted}
use Rattle.list_laws.proofs.Cited.{arranged_same, front_is}
use Rattle.point_order.specs.Sets.{IsIn}
use Rattle.face_list.specs.Gather.{item_cmp}
use Rattle.face_list.proofs.gather.in_order.Goals as goal

pub each_once-requires-clause-order : goal.each_once-requires-clause-order
each_once-requires-clause-order g c =
    let s = c.par_sort_unstable.new.s in
    let i = c.args.items in
    let e = front_is s (drop (length s) i.items) i.len (i.ok.0 ∙ sym (ap length c.deref_mut.ensures.value)
    ∙ sym c.par_sort_unstable.ensures.len) in
    subst (IsSorted (item_cmp g.K.Ord.cmp)) (sym e) c.par_sort_unstable.ensures.sorted

pub returns-clause-same : goal.returns-clause-same
returns-clause-same g c k =
    let s = c.par_sort_unstable.new.s in
    let i = c.args.items in
    let e = front_is s (drop (length s) i.items) i.len (i.ok.0 ∙ sym (ap length c.deref_mut.ensures.value)
    ∙ sym c.par_sort_unstable.ensures.len) in
    let a = arranged_same c.deref_mut.result.now s c.par_sort_unstable.ensures.permutation k in
    let b = c.each_once.ensures.same k in
    let q = c.deref_mut.ensures.value in (
      λ m. subst (IsIn k) q (a.0 (subst (IsIn k) e (b.0 m))),
      λ m. b.1 (subst (IsIn k) (sym e) (a.1 (subst (IsIn k) (sym q) m))),
    )
