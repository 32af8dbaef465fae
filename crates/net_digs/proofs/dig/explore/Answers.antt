use Rattle.std.proofs.Common.{sym, ◌∙◌, ap, subst, List, ◌+◌, ◌++◌, take, length, [], ◌∷◌, arith}
use Rattle.std.proofs.lemmas.Bool.{MatchBool-at_false, MatchBool-at_true}
use Rattle.std.proofs.lemmas.List.{take_all}
use Rattle.point_order.specs.declared.cell.Facet.{Facet}
use Rattle.point_order.specs.Facets.{facets_of}
use Rattle.hole_laws.specs.Digs.{AreCrossed, AreUncrossed}
use Rattle.hole_laws.proofs.Cited.{next_uncrossed, still_at, one_more, more_twice, facets_few}
use Rattle.net_digs.proofs.dig.explore.Goals as goal

pub cross-requires-clause-stands : goal.cross-requires-clause-stands
cross-requires-clause-stands c =
    let r = c.requires.stands in
    let i = c.loop-facet.invariant in
    let now = r.1 ++ take c.loop-facet.facet-index c.facets-facets.result in (
      r.0,
      now,
      still_at r.0.set c.args.p r.1 now c.args.spot.now c.args.hole.now.gone.items
          c.loop-facet.hole.gone.items c.args.hole.now.rim.items c.loop-facet.hole.rim.items r.2 i.0
          (i.1 r.0.others r.0.set r.0.cells_of r.2.new r.1 r.2 r.3),
    )

-- one facet more is crossed
pub loop-facet-preserved : goal.loop-facet-preserved
loop-facet-preserved c =
    let i = c.loop-facet.invariant in
    let old = c.args.hole.now in
    let mid = c.loop-facet.hole in
    let new = c.cross.new.hole in (
      more_twice old.gone.items mid.gone.items new.gone.items i.0 c.in_ok-could.ensures.more,
      λ others s k n crossed t u. (
          let now = crossed ++ take c.loop-facet.facet-index c.facets-facets.result in
          let so_far = i.1 others s k n crossed t u in
          let at = still_at s c.args.p crossed now c.args.spot.now old.gone.items mid.gone.items
          old.rim.items mid.rim.items t i.0 so_far in
          let v = next_uncrossed s c.args.p k.solid.set crossed c.args.spot.now old.gone.items
          old.rim.items t u c.facets-facets.result c.loop-facet.facet-index c.facet-item.result
          (c.facets-facets.ensures ∙ ap facets_of c.cell.ensures) (omega (arith, c.type_inv.facet-items))
          c.facet-item.is in
          let w = MatchBool-at_true _ _ c.if-not-could.false c.in_ok-could.ensures.crossed others s k n now at
          (subst (λ (f : Facet). AreUncrossed s c.args.p now (f ∷ [])) c.facet-item.is v) in
          subst (λ (l : List Facet). AreCrossed s c.args.p l new.gone.items new.rim.items)
          (one_more crossed c.facets-facets.result c.loop-facet.facet-index c.facet-item.result
          (omega (arith, c.type_inv.facet-items)) c.facet-item.is)
          (subst (λ (f : Facet). AreCrossed s c.args.p (now ++ f ∷ []) new.gone.items new.rim.items)
          (sym c.facet-item.is) w)),
      c.in_ok-could.ensures.marked,
      ap (λ n. n + 1) i.3,
    )

pub returns-then-not-could-clause-more : goal.returns-then-not-could-clause-more
returns-then-not-could-clause-more c =
    more_twice c.args.hole.now.gone.items c.loop-facet.hole.gone.items c.cross.new.hole.gone.items
    c.loop-facet.invariant.0 c.in_ok-could.ensures.more

pub returns-then-not-could-clause-explored : goal.returns-then-not-could-clause-explored
returns-then-not-could-clause-explored c =
    MatchBool-at_false _ _ c.if-not-could.true c.in_ok-could.ensures.crossed

pub returns-clause-explored : goal.returns-clause-explored
returns-clause-explored c others s k n crossed t u =
    subst (λ (l : List Facet). AreCrossed s c.args.p (crossed ++ l) c.loop-facet.hole.gone.items
    c.loop-facet.hole.rim.items)
    (take_all c.loop-facet.facet-index c.facets-facets.result (omega
    (arith, ap length (c.facets-facets.ensures ∙ ap facets_of c.cell.ensures), facets_few c.args.spot.now)) ∙
    (c.facets-facets.ensures ∙ ap facets_of c.cell.ensures)) (c.loop-facet.invariant.1 others s k n crossed t u)
