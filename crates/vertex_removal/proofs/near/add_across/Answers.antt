use Rattle.std.proofs.Common.{sym, ◌∙◌, subst, List, arith}
use Rattle.list_laws.proofs.Cited.{among_from, at_place}
use Rattle.point_order.specs.declared.cell.Facet.{Facet}
use Rattle.point_order.specs.Complex.{complex}
use Rattle.point_order.specs.Facets.{points_of}
use Rattle.point_order.specs.Sets.{IsIn}
use Rattle.hole_laws.specs.Others.{IsOtherOf}
use Rattle.cell_store.specs.Shares.{NoneInHand, points_on}
use Rattle.cavity.proofs.Cited.{facet_held}
use Rattle.cell_store.proofs.Cited.{solid_set}
use Rattle.gift_wrap.proofs.Cited.{one_added, one_passed}
use Rattle.vertex_removal.proofs.near.add_across.Goals.{then-not-has+in_ok-push, else-not-has}
use Rattle.vertex_removal.proofs.near.add_across.Goals as goal

pub cell_across-other-requires-clause-held : goal.cell_across-other-requires-clause-held
cell_across-other-requires-clause-held c =
    let r = c.requires.shown in
    let m = subst (λ (l : List Facet). IsIn c.facet-item.result l) c.facets-facets.ensures
    (at_place c.facets-facets.result c.loop-facet.facet-index c.facet-item.result c.facet-item.result
    (omega (arith, c.type_inv.facet-items)) c.facet-item.is) in
    subst (λ (f : Facet). ¬ (NoneInHand c.args.hold.now (points_on f))) c.facet-item.is
    (facet_held c.args.hold.now r.0 (solid_set c.args.hold.now r.0 r.1).set c.args.cell.now r.2 c.requires.held
    c.facet-item.result m)

pub loop-facet-preserved : goal.loop-facet-preserved
loop-facet-preserved c h st k =
    let i = (solid_set c.args.hold.now h st).set in
    let o = subst (λ (f : Facet). IsOtherOf (complex h) c.args.cell.now f c.cell_across-other.result.now)
    (sym c.facet-item.is) (c.cell_across-other.ensures h st k) in
    elim c.if-not-has.branch [
      | then-not-has+in_ok-push w ↦ rw (w.around-is, w.in_ok-push.ensures.items)
          (one_added h c.args.v i c.args.cell.now k c.facets-facets.result c.loop-facet.facet-index c.facet-item.result
          (omega (arith, c.type_inv.facet-items)) c.facet-item.is c.facets-facets.ensures
          c.cell_across-other.result.now o c.args.around.now.items c.loop-facet.around.items
          (c.loop-facet.invariant h st k))
      | else-not-has w ↦ rw w.around-is
          (one_passed h c.args.v i c.args.cell.now k c.facets-facets.result c.loop-facet.facet-index c.facet-item.result
          (omega (arith, c.type_inv.facet-items)) c.facet-item.is c.facets-facets.ensures
          c.cell_across-other.result.now o c.args.around.now.items c.loop-facet.around.items
          (among_from c.args.v (points_of c.cell_across-other.result.now) (sym c.has.ensures ∙ w.if-not-has.false))
          (c.loop-facet.invariant h st k))
    ]
