use Rattle.std.proofs.Common.{sym, ◌∙◌, ap, subst, List, ◌++◌, take, length, [], ◌∷◌, arith}
use Rattle.std.proofs.lemmas.List.{take_all}
use Rattle.point_order.specs.declared.cell.Facet.{Facet}
use Rattle.point_order.specs.Facets.{facets_of}
use Rattle.cell_store.specs.Shares.{NoneInHand, points_on}
use Rattle.hole_laws.specs.Digs.{AreCrossed, AreUncrossed}
use Rattle.cell_store.proofs.Cited.{solid_set}
use Rattle.cavity.proofs.Exploration.{facet_held}
use Rattle.hole_laws.proofs.Cited.{next_facet, next_uncrossed, still_at, one_more, more_twice, facets_few}
use Rattle.cavity.proofs.explore.explore.Goals as goal

pub cross-requires-clause-shown : goal.cross-requires-clause-shown
cross-requires-clause-shown c =
    let r = c.requires.shown in
    let now = r.2 ++ take c.loop-facet.facet-index c.facets-facets.result in (
      r.0,
      r.1,
      now,
      still_at r.0 c.args.point r.2 now c.args.cell.now c.args.judged.now c.loop-facet.judged
          c.args.rim.now.items c.loop-facet.rim.items r.3 c.loop-facet.invariant.0
          (c.loop-facet.invariant.1 r.0 r.1 r.2 r.3 r.4),
    )

pub cross-requires-clause-held : goal.cross-requires-clause-held
cross-requires-clause-held c =
    let r = c.requires.shown in
    let i = (solid_set c.args.hold.now r.0 r.1).set in
    subst (λ (f : Facet). ¬ (NoneInHand c.args.hold.now (points_on f))) c.facet-item.is
    (facet_held c.args.hold.now r.0 i c.args.cell.now (r.3.so_far.goes c.args.cell.now r.3.among).before c.requires.held
    c.facet-item.result
    (next_facet r.0 c.args.point i r.2 c.args.cell.now c.args.judged.now c.args.rim.now.items r.3 r.4
    c.facets-facets.result c.loop-facet.facet-index c.facet-item.result
    (c.facets-facets.ensures ∙ ap facets_of c.cell.ensures) (omega (arith, c.type_inv.facet-items)) c.facet-item.is))

pub loop-facet-preserved : goal.loop-facet-preserved
loop-facet-preserved c = (
  more_twice c.args.judged.now c.loop-facet.judged c.cross.new.judged c.loop-facet.invariant.0
      c.in_ok-cross.ensures.more,
  λ h st crossed t u. (
      let now = crossed ++ take c.loop-facet.facet-index c.facets-facets.result in
      let k = c.loop-facet.invariant.1 h st crossed t u in
      let at = still_at h c.args.point crossed now c.args.cell.now c.args.judged.now c.loop-facet.judged
      c.args.rim.now.items c.loop-facet.rim.items t c.loop-facet.invariant.0 k in
      let v = next_uncrossed h c.args.point (solid_set c.args.hold.now h st).set crossed c.args.cell.now
      c.args.judged.now c.args.rim.now.items t u c.facets-facets.result c.loop-facet.facet-index
      c.facet-item.result (c.facets-facets.ensures ∙ ap facets_of c.cell.ensures)
      (omega (arith, c.type_inv.facet-items)) c.facet-item.is in
      let w = c.in_ok-cross.ensures.crossed h st now at
      (subst (λ (f : Facet). AreUncrossed h c.args.point now (f ∷ [])) c.facet-item.is v) in
      subst (λ (l : List Facet). AreCrossed h c.args.point l c.cross.new.judged c.cross.new.rim.items)
      (one_more crossed c.facets-facets.result c.loop-facet.facet-index c.facet-item.result
      (omega (arith, c.type_inv.facet-items)) c.facet-item.is)
      (subst (λ (f : Facet). AreCrossed h c.args.point (now ++ f ∷ []) c.cross.new.judged c.cross.new.rim.items)
      (sym c.facet-item.is) w)),
)

pub returns-clause-explored : goal.returns-clause-explored
returns-clause-explored c h st crossed t u =
    subst (λ (l : List Facet). AreCrossed h c.args.point (crossed ++ l) c.loop-facet.judged c.loop-facet.rim.items)
    (take_all c.loop-facet.facet-index c.facets-facets.result
    (omega (arith, ap length (c.facets-facets.ensures ∙ ap facets_of c.cell.ensures), facets_few c.args.cell.now))
    ∙ (c.facets-facets.ensures ∙ ap facets_of c.cell.ensures)) (c.loop-facet.invariant.1 h st crossed t u)
