use Rattle.std.proofs.Common.{sym, ◌∙◌, ap, subst, List, ◌+◌, ◌<◌, ◌++◌, length, arith}
use Rattle.std.proofs.lemmas.List.{take_all}
use Rattle.list_laws.proofs.Cited.{at_place, in_right}
use Rattle.point_order.specs.declared.cell.Facet.{Facet}
use Rattle.point_order.specs.Facets.{facets_of}
use Rattle.point_order.specs.Sets.{IsIn}
use Rattle.hole_laws.specs.Others.{IsOtherOf}
use Rattle.hole_laws.proofs.Cited.{facets_few}
use Rattle.cell_slots.specs.Clouds.{HasOtherIn}
use Rattle.cell_slots.specs.Nets.{cells_of_slots}
use Rattle.cell_slots.specs.Stars.{AreBehind}
use Rattle.net_digs.proofs.Behind.{behind_more}
use Rattle.cell_net.proofs.Cited.{other_of, some_other}
use Rattle.net_digs.proofs.behind_all.push_behind.Goals as goal

pub behind-requires : goal.behind-requires
behind-requires c =
    let r = c.requires.cells in
    let l = cells_of_slots c.args.net.now in
    let facets = c.facets-facets.result in
    let same = c.facets-facets.ensures ∙ ap facets_of c.cell.ensures in
    let m = subst (λ (k : List Facet). IsIn c.facet-item.result k) same
    (at_place facets c.loop-facet.facet-index c.facet-item.result c.facet-item.result
    (omega (arith, c.type_inv.facet-items)) c.facet-item.is) in
    let h = some_other r.0 (l ++ c.args.gone.now) r.1 c.args.spot.now c.facet-item.result
    (in_right c.args.spot.now l c.args.gone.now c.requires.among) m in
    subst (λ (f : Facet). HasOtherIn (l ++ c.args.gone.now) c.args.spot.now f) c.facet-item.is h

-- one facet more is looked behind
pub loop-facet-preserved : goal.loop-facet-preserved
loop-facet-preserved c =
    let i = c.loop-facet.invariant in (
      λ s k. (
          let l = cells_of_slots c.args.net.now in
          let all = l ++ c.args.gone.now in
          let facets = c.facets-facets.result in
          let same = c.facets-facets.ensures ∙ ap facets_of c.cell.ensures in
          let less : c.loop-facet.facet-index < length facets = omega (arith, c.type_inv.facet-items) in
          let m = subst (λ (k : List Facet). IsIn c.facet-item.result k) same
          (at_place facets c.loop-facet.facet-index c.facet-item.result c.facet-item.result less c.facet-item.is) in
          let o = other_of s all k c.args.spot.now c.facet-item.result c.to_cell.result
          (subst (λ (f : Facet). IsOtherOf all c.args.spot.now f c.to_cell.result) (sym c.facet-item.is)
          (rw c.to_cell.ensures c.behind.ensures)) in
          rw c.in_ok-push.ensures.items
          (behind_more s k.solid.set c.args.spot.now c.to_cell.result facets c.loop-facet.facet-index
          c.facet-item.result c.args.cells.now.items c.loop-facet.cells.items
          ((k.members c.args.spot.now).0 (in_right c.args.spot.now l c.args.gone.now c.requires.among)) m less
          c.facet-item.is o (i.0 s k))),
      ap (λ n. n + 1) i.1,
    )

pub returns : goal.returns
returns c s k =
    subst (λ (l : List Facet). AreBehind s c.args.spot.now l c.args.cells.now.items c.loop-facet.cells.items)
    (take_all c.loop-facet.facet-index c.facets-facets.result (omega
    (arith, ap length (c.facets-facets.ensures ∙ ap facets_of c.cell.ensures), facets_few c.args.spot.now)) ∙
    (c.facets-facets.ensures ∙ ap facets_of c.cell.ensures)) (c.loop-facet.invariant.0 s k)
