use Rattle.std.proofs.Common.{◌≡◌, ◌∙◌, ap, sym, subst, ◌+◌, ◌++◌, ◌∷◌, [], List, Option, map, take}
use Rattle.std.proofs.lemmas.List.{map-append, take_all}
use Rattle.list_laws.proofs.Cited.{at_place, take_next}
use Rattle.point_order.specs.declared.cell.Cell.{Cell}
use Rattle.point_order.specs.declared.cell.Facet.{Facet}
use Rattle.hole_laws.specs.Lists.{cell_over}
use Rattle.hole_laws.specs.Digs.{IsFacetApart}
use Rattle.cell_slots.specs.Nets.{AreWith, AreWithAll, cells_of_slots}
use Rattle.net_digs.proofs.Filling.{with_more}
use Rattle.net_digs.proofs.grow.put_all.Goals as goal

pub over-requires : goal.over-requires
over-requires c =
    subst (λ (f : Facet). IsFacetApart f c.args.p) (sym c.facet.ensures)
    (c.requires c.side-item.result (at_place c.args.rim.now c.loop-side.side-index c.side-item.result c.side-item.result
    c.loop-side-test.true c.side-item.is))

-- one cell more is put in
pub loop-side-preserved : goal.loop-side-preserved
loop-side-preserved c =
    let over : Facet → Cell = λ f. cell_over f c.args.p in
    let i = c.loop-side.side-index in
    let x = c.side-item.result in
    let rim = c.args.rim.now in
    let e : map over (take i rim) ++ c.over.result ∷ [] ≡ map over (take (i + 1) rim) =
    ap (λ y. map over (take i rim) ++ y ∷ []) (c.over.ensures ∙ ap over c.facet.ensures)
    ∙ sym (map-append over (take i rim) (x ∷ [])) ∙ ap (map over) (sym
    (take_next rim i x c.loop-side-test.true c.side-item.is)) in
    let now = cells_of_slots c.put.new.self in
    let w = subst (λ (n : List (Option Cell)). AreWith (cells_of_slots n) c.over.result now) c.slot_for-hint.ensures
    c.in_ok-place.ensures in
    rw c.link.ensures
    (subst (λ (l : List Cell). AreWithAll (cells_of_slots c.args.net.now) l now) e
    (with_more (cells_of_slots c.args.net.now) (map over (take i rim)) (cells_of_slots c.loop-side.net) now
    c.over.result c.loop-side.invariant w))

pub returns : goal.returns
returns c =
    subst (λ (l : List Facet). AreWithAll (cells_of_slots c.args.net.now) (map (λ f. cell_over f c.args.p) l)
    (cells_of_slots c.loop-side.net)) (take_all c.loop-side.side-index c.args.rim.now c.loop-side-test.false)
    c.loop-side.invariant
