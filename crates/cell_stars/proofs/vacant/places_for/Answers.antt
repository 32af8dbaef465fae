use Rattle.std.proofs.Common.{arith, subst, sym, ◌∙◌, List, ℕ}
use Rattle.list_laws.proofs.Cited.{ascend_first, in_take}
use Rattle.point_order.specs.Sets.{IsIn, IsAscending}
use Rattle.cell_stars.proofs.MoveLaws.{vacant_from}
use Rattle.cell_stars.proofs.vacant.places_for.Goals as goal

pub behind_last-requires : goal.behind_last-requires
behind_last-requires c = subst IsAscending (sym (c.deref.ensures.value ∙ c.truncate.ensures.items))
    (ascend_first c.numbers_in_order-list.result.items c.args.count c.numbers_in_order-list.ensures.order)

pub add_open-requires-clause-order : goal.add_open-requires-clause-order
add_open-requires-clause-order c = subst IsAscending (sym c.truncate.ensures.items)
    (ascend_first c.numbers_in_order-list.result.items c.args.count c.numbers_in_order-list.ensures.order)

pub add_open-requires-clause-before : goal.add_open-requires-clause-before
add_open-requires-clause-before c i m = (let t =
    c.in_ok-last.ensures i (subst (λ (l : List ℕ). IsIn i l) (sym c.deref.ensures.value) m) in let e = c.max.ensures in
    omega (arith, t, e))

pub returns-clause-vacant : goal.returns-clause-vacant
returns-clause-vacant c =
    vacant_from c.args.slots.now c.args.freed.now c.in_ok-likely_places.field-0.items c.truncate.new.self.items
    c.add_open.new.list.items c.in_ok-likely_places.ensures
    (λ i m. (c.numbers_in_order-list.ensures.same i).0
    (in_take c.args.count c.numbers_in_order-list.result.items i
    (subst (λ (l : List ℕ). IsIn i l) c.truncate.ensures.items m)))
    c.in_ok-add_open.ensures.open
