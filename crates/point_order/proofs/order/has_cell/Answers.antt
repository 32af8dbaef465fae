use Rattle.std.proofs.Common.{refl, sym, subst, inl, inr, false, List, arith}
use Rattle.std.proofs.lemmas.List.{take_all}
use Rattle.list_laws.proofs.Cited.{at_place, in_take_more, not_both}
use Rattle.point_order.specs.declared.cell.Cell.{Cell}
use Rattle.point_order.specs.Sets.{IsIn}
use Rattle.point_order.proofs.order.has_cell.Goals as goal

pub loop-other-preserved : goal.loop-other-preserved
loop-other-preserved c =
    λ m. elim (in_take_more c.args.cells.now c.loop-other.other-index c.other-item.result c.args.cell.now
    c.loop-other-test.true c.other-item.is m) [
      | inl k ↦ c.loop-other.invariant k
      | inr e ↦ not_both c.is_same.result (c.is_same.ensures.1 e) c.if-is_same.false
    ]

pub returns-then-is_same : goal.returns-then-is_same
returns-then-is_same c = (
  λ h. subst (λ (x : Cell). IsIn x c.args.cells.now) (c.is_same.ensures.0 c.if-is_same.true)
      (at_place c.args.cells.now c.loop-other.other-index c.other-item.result c.other-item.result c.loop-other-test.true
      c.other-item.is),
  λ m. refl,
)

pub returns : goal.returns
returns c = (
  λ h. absurd (not_both false h refl),
  λ m. absurd (c.loop-other.invariant (subst (λ (l : List Cell). IsIn c.args.cell.now l)
      (sym (take_all c.loop-other.other-index c.args.cells.now (omega (arith, c.loop-other-test.false)))) m)),
)
