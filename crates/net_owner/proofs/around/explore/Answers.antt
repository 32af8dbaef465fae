use Rattle.std.proofs.Common.{sym, ◌∙◌, ap, subst, List, ◌+◌, ◌++◌, take, length, [], ◌∷◌, arith}
use Rattle.std.proofs.lemmas.List.{take_all}
use Rattle.list_laws.proofs.Cited.{in_left}
use Rattle.point_order.specs.declared.cell.Cell.{Cell}
use Rattle.point_order.specs.declared.cell.Facet.{Facet}
use Rattle.point_order.specs.Facets.{facets_of}
use Rattle.point_order.specs.Sets.{IsIn}
use Rattle.hole_laws.proofs.Cited.{facets_few, more_twice, one_more}
use Rattle.cell_slots.specs.Stars.{AreCrossedAround}
use Rattle.net_owner.proofs.around.explore.Goals as goal

pub cross-requires-clause-among : goal.cross-requires-clause-among
cross-requires-clause-among c =
    let i = c.loop-facet.invariant.0 in
    subst (λ (l : List Cell). IsIn c.args.spot.now l) (sym i.1)
    (in_left c.args.spot.now c.args.around.now i.0 c.requires.among)

-- one facet more is crossed
pub loop-facet-preserved : goal.loop-facet-preserved
loop-facet-preserved c =
    let i = c.loop-facet.invariant in
    let e = c.in_ok-cross.ensures in
    let new = c.cross.new.around in (
      more_twice c.args.around.now c.loop-facet.around new i.0 e.more,
      e.looked,
      λ s k crossed t. (
          let now = crossed ++ take c.loop-facet.facet-index c.facets-facets.result in
          let w = e.crossed s k now (i.2 s k crossed t) in
          subst (λ (l : List Facet). AreCrossedAround s c.args.aim.now.point l new)
          (one_more crossed c.facets-facets.result c.loop-facet.facet-index c.facet-item.result
          (omega (arith, c.type_inv.facet-items)) c.facet-item.is)
          (subst (λ (f : Facet). AreCrossedAround s c.args.aim.now.point (now ++ f ∷ []) new) (sym c.facet-item.is) w)),
      ap (λ n. n + 1) i.3,
    )

pub returns-clause-explored : goal.returns-clause-explored
returns-clause-explored c s k crossed t =
    subst (λ (l : List Facet). AreCrossedAround s c.args.aim.now.point (crossed ++ l) c.loop-facet.around)
    (take_all c.loop-facet.facet-index c.facets-facets.result (omega
    (arith, ap length (c.facets-facets.ensures ∙ ap facets_of c.cell.ensures), facets_few c.args.spot.now)) ∙
    (c.facets-facets.ensures ∙ ap facets_of c.cell.ensures)) (c.loop-facet.invariant.2 s k crossed t)
