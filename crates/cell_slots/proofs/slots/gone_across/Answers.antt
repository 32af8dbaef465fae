use Rattle.std.proofs.Common.{◌<◌, length, inl, inr, subst, sym, ◌∙◌, List, arith}
use Rattle.std.proofs.lemmas.List.{take_all}
use Rattle.list_laws.proofs.Cited.{at_place, in_take_more, not_both}
use Rattle.point_order.specs.declared.cell.Cell.{Cell}
use Rattle.cell_slots.specs.Nets.{IsOtherOn}
use Rattle.hole_laws.specs.Others.{HaveNoOther}
use Rattle.point_order.specs.Sets.{IsIn}
use Rattle.cell_slots.proofs.slots.gone_across.Goals as goal

pub returns-then-is_across : goal.returns-then-is_across
returns-then-is_across c =
    let r = c.is_across.ensures.0 c.if-is_across.true in
    let less : c.args.hint < length c.args.gone.now = omega (arith, c.if-hint-gone.true) in
    record {
      listed = subst (λ (q : Cell). IsIn q c.args.gone.now) (sym c.cell-other.ensures)
          (at_place c.args.gone.now c.args.hint c.index-gone-hint.result c.index-gone-hint.result less
          c.index-gone-hint.is);
      has = r.0;
      differs = r.1;
    }

pub loop-spot-preserved : goal.loop-spot-preserved
loop-spot-preserved c o k =
    elim (in_take_more c.args.gone.now c.loop-spot.spot-index c.spot-item.result o c.loop-spot-test.true c.spot-item.is
    k.listed) [
      | inl m ↦ c.loop-spot.invariant o (record { listed = m; has = k.has; differs = k.differs })
      | inr e ↦ not_both c.is_across-in-loop-spot.result
          (c.is_across-in-loop-spot.ensures.1 (subst (λ (q : Cell). IsOtherOn c.args.cell.now c.args.facet.now q)
          (sym e ∙ sym c.cell.ensures) (k.has, k.differs))) c.if-is_across-2.false
    ]

pub returns-then-is_across-2 : goal.returns-then-is_across-2
returns-then-is_across-2 c =
    let r = subst (λ (q : Cell). IsOtherOn c.args.cell.now c.args.facet.now q)
    (c.cell.ensures ∙ sym c.cell-then-is_across-2.ensures) (c.is_across-in-loop-spot.ensures.0 c.if-is_across-2.true)
    in
    record {
      listed = subst (λ (q : Cell). IsIn q c.args.gone.now) (sym c.cell-then-is_across-2.ensures)
          (at_place c.args.gone.now c.loop-spot.spot-index c.spot-item.result c.spot-item.result c.loop-spot-test.true
          c.spot-item.is);
      has = r.0;
      differs = r.1;
    }

pub returns : goal.returns
returns c =
    subst (λ (l : List Cell). HaveNoOther l c.args.cell.now c.args.facet.now)
    (take_all c.loop-spot.spot-index c.args.gone.now (omega (arith, c.loop-spot-test.false))) c.loop-spot.invariant
