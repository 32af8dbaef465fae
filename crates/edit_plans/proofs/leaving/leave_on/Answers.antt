use Rattle.std.proofs.Common.{◌∙◌, sym, subst, inl, inr, List, ℕ}
use Rattle.point_order.specs.Complex.{complex}
use Rattle.point_order.specs.Sets.{with_point}
use Rattle.point_order.specs.declared.cell.Cell.{Cell}
use Rattle.edit_history.proofs.Cited.{ok_then}
use Rattle.edit_history.specs.declared.history.Edit.TheVariants.{Add}
use Rattle.cell_store.specs.Buckets.{room_both}
use Rattle.cell_store.specs.Ready.{AreHeld, FindsCells}
use Rattle.cell_store.proofs.Cited.{change_finds_cells}
use Rattle.edit_plans.specs.Plans.{HoldsHome}
use Rattle.edit_plans.proofs.Moved.{answers_roomed, leaves_answers, leaving_roomed, own_room, way_made}
use Rattle.edit_plans.proofs.leaving.leave_on.Goals as goal

pub reserve_both_found-requires-clause-gone : goal.reserve_both_found-requires-clause-gone
reserve_both_found-requires-clause-gone c = subst (λ (l : List Cell). AreHeld c.args.hold.now l)
    (sym c.deref.ensures.value) c.requires.2.gone

pub reserve_both_found-requires-clause-fresh : goal.reserve_both_found-requires-clause-fresh
reserve_both_found-requires-clause-fresh c = subst (λ (l : List Cell). AreHeld c.args.hold.now l)
    (sym c.deref-2.ensures.value) c.requires.2.fresh

pub reserve_both_found-requires-clause-points : goal.reserve_both_found-requires-clause-points
reserve_both_found-requires-clause-points c p i = elim i [
  | inl e ↦ subst (λ (x : ℕ). HoldsHome c.args.hold.now x) e c.requires.2.goal
  | inr none ↦ absurd none
]

pub reserve_both_found-requires-clause-found : goal.reserve_both_found-requires-clause-found
reserve_both_found-requires-clause-found c =
    let hold = c.args.hold.now in
    let l = c.args.landed in
    let k = c.requires in
    subst (λ (m : List Cell). FindsCells hold m c.deref-2.result.now) (sym c.deref.ensures.value)
    (subst (λ (m : List Cell). FindsCells hold l.came.gone.items m) (sym c.deref-2.ensures.value)
    (change_finds_cells hold k.0 (complex (with_point l.to k.0)) l.came.gone.items l.came.fresh.items k.1
    k.2.is.change k.2.gone))

pub look_beside-requires-clause-way : goal.look_beside-requires-clause-way
look_beside-requires-clause-way c =
    let l = c.args.landed in
    way_made c.args.hold.now c.reserve_both_found.new.self l.came.gone.items l.came.fresh.items l.to
    (c.in_ok-reserve_both_found.ensures.ok
    ∙ (λ i. record c.args.hold.now
    { room = room_both (c.deref.ensures.value i) (c.deref-2.ensures.value i) (Add l.to) }))

pub look_beside-requires-clause-shown : goal.look_beside-requires-clause-shown
look_beside-requires-clause-shown c =
    leaving_roomed c.args.hold.now c.reserve_both_found.new.self _ c.args.landed
    c.in_ok-reserve_both_found.ensures.ok c.requires

pub returns-clause-same : goal.returns-clause-same
returns-clause-same c =
    own_room c.look_beside.new.hold c.args.hold.now _
    (c.in_ok-found.ensures.same ∙ c.in_ok-reserve_both_found.ensures.ok)

pub returns-clause-answers : goal.returns-clause-answers
returns-clause-answers c =
    ok_then _ _ c.moved_by.result
    (λ turn m. leaves_answers c.args.hold.now c.args.landed c.in_ok-found.found turn
    (answers_roomed c.args.hold.now c.reserve_both_found.new.self _ c.args.landed c.in_ok-reserve_both_found.ensures.ok
    c.in_ok-found.found c.in_ok-found.ensures.found) m)
    c.moved_by.ensures
