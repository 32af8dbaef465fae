use Rattle.std.proofs.Common.{◌∙◌, inl, inr, subst, sym}
use Rattle.std.proofs.lemmas.List.{take_all}
use Rattle.list_laws.proofs.Cited.{at_in}
use Rattle.point_order.specs.Sets.{IsIn}
use Rattle.cell_stars.specs.Plans.{AreVertices}
use Rattle.cell_store.proofs.RoomLaws.{numbers_more, ready_more, ready_all, vertex_numbers}
use Rattle.cell_store.proofs.room.plans_for.Goals as goal

pub plan_for-requires-clause-held : goal.plan_for-requires-clause-held
plan_for-requires-clause-held c =
    let i = at_in c.as_slice-b-items.result.now c.loop-b.b-index 0 c.loop-b-test.true in
    let v = subst (AreVertices c.args.gone.now c.args.fresh.now) (sym c.vertices.ensures.vertices)
    c.in_ok-matched.ensures.vertices in
    elim ((vertex_numbers c.args.grid c.args.gone.now c.args.fresh.now c.vertices.result.now v _).0
    ((c.in_ok-numbers.ensures.numbers _).0 (subst (IsIn _) c.as_slice-b-items.ensures i))) [
      | inl j ↦ c.requires.gone _ j
      | inr j ↦ c.requires.fresh _ j
    ]

pub loop-b-preserved : goal.loop-b-preserved
loop-b-preserved c =
    let e = c.in_ok-push.ensures.items in
    record {
      numbers = numbers_more c.loop-b.plans.items c.push.new.self.items c.in_ok-plan_for.field-0
          c.as_slice-b-items.result.now c.loop-b.b-index c.loop-b-test.true e c.in_ok-plan_for.ensures.number
          c.loop-b.invariant.numbers;
      each = ready_more c.args.gone.now c.args.fresh.now c.args.places.now c.loop-b.plans.items c.push.new.self.items
          c.in_ok-plan_for.field-0 e c.loop-b.invariant.each c.in_ok-plan_for.ensures.ready;
    }

pub returns : goal.returns
returns c =
    let v = subst (AreVertices c.args.gone.now c.args.fresh.now) (sym c.vertices.ensures.vertices)
    c.in_ok-matched.ensures.vertices in
    ready_all c.args.grid c.args.gone.now c.args.fresh.now c.args.places.now c.loop-b.plans.items
    c.in_ok-numbers.numbers.items c.loop-b.invariant.each
    (c.loop-b.invariant.numbers ∙ take_all c.loop-b.b-index c.as_slice-b-items.result.now c.loop-b-test.false
    ∙ c.as_slice-b-items.ensures) c.in_ok-numbers.ensures.order
    (λ b i. (c.in_ok-numbers.ensures.numbers b).1
    ((vertex_numbers c.args.grid c.args.gone.now c.args.fresh.now c.vertices.result.now v b).1 i))
