use Rattle.std.proofs.Common.{subst, sym, List, ◌∷◌, [], inl, inr}
use Rattle.list_laws.proofs.Cited.{at_place, from_append}
use Rattle.point_order.specs.declared.cell.Facet.{Facet}
use Rattle.point_order.specs.Sets.{IsIn}
use Rattle.gift_wrap.specs.Wraps.{IsOuter}
use Rattle.gift_wrap.specs.declared.wrap.Side.{Side}
use Rattle.gift_wrap.proofs.wrap.sides_of_hole.Goals as goal

pub loop-cell-preserved : goal.loop-cell-preserved
loop-cell-preserved c = λ s m.
    elim (from_append s c.loop-cell.sides.items (c.new.result ∷ [])
    (subst (λ (l : List Side). IsIn s l) c.in_ok-push-in-Some.ensures.items m)) [
      | inl n ↦ c.loop-cell.invariant s n
      | inr n ↦ elim n [
        | inl e ↦ (
          c.cell-item.result,
          at_place c.args.star.now c.loop-cell.cell-index c.cell-item.result
              c.cell-item.result c.loop-cell-test.true c.cell-item.is,
          subst (λ (x : Side). IsOuter c.cell-item.result c.args.v x.facet) e
              (subst (λ (f : Facet). IsOuter c.cell-item.result c.args.v f) (sym c.new.ensures) c.in-Some.ensures),
        )
        | inr none ↦ absurd none
      ]
    ]
