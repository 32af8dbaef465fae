use Rattle.std.proofs.Common.{sym, ◌∙◌, subst, List, ◌∷◌, [], take, arith}
use Rattle.list_laws.specs.Lists.{AreDistinct}
use Rattle.list_laws.proofs.Cited.{apart_place, take_next}
use Rattle.point_order.specs.declared.cell.Facet.{Facet}
use Rattle.gift_wrap.specs.Wraps.{AreMet}
use Rattle.gift_wrap.proofs.Meeting.{one_met}
use Rattle.gift_wrap.proofs.wrap.meet_facets.Goals as goal

pub loop-facet-preserved : goal.loop-facet-preserved
loop-facet-preserved c =
    let facets = c.facets-facets.result in
    let n = c.loop-facet.facet-index in
    let f = c.facet-item.result in
    let once = subst (λ (l : List Facet). AreDistinct l) (sym c.facets-facets.ensures) c.requires in
    subst (λ (l : List Facet). AreMet l c.args.sides.now.items c.meet.new.sides.items)
    (sym (take_next facets n f (omega (arith, c.type_inv.facet-items)) c.facet-item.is))
    (one_met (take n facets) f c.args.sides.now.items c.loop-facet.sides.items c.meet.new.sides.items
    (apart_place facets n f once (omega (arith, c.type_inv.facet-items)) c.facet-item.is) c.loop-facet.invariant
    (subst (λ (g : Facet). AreMet (g ∷ []) c.loop-facet.sides.items c.meet.new.sides.items)
    (c.new.ensures ∙ sym c.facet-item.is) c.in_ok-meet.ensures))
