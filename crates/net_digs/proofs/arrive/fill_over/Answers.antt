use Rattle.std.proofs.Common.{refl, ◌≡◌, ◌∙◌, ap, sym, subst, ◌+◌, ◌++◌, ◌∷◌, [], List, Option, length, map, take}
use Rattle.std.proofs.Common.{arith}
use Rattle.std.proofs.lemmas.List.{map-append, take_all}
use Rattle.list_laws.proofs.Cited.{at_place, take_next}
use Rattle.point_order.specs.declared.cell.Cell.{Cell}
use Rattle.point_order.specs.declared.cell.Facet.{Facet}
use Rattle.hole_laws.specs.Digs.{IsFacetApart}
use Rattle.hole_laws.specs.Lists.{cell_over}
use Rattle.cell_slots.specs.Nets.{AreWith, AreWithAll, cells_of_slots}
use Rattle.cell_slots.specs.Stars.{HaveRoom}
use Rattle.net_digs.proofs.Filling.{with_more}
use Rattle.cell_slots.proofs.Cited.{with_no_more}
use Rattle.net_digs.proofs.arrive.fill_over.Goals as goal

pub loop-side-init : goal.loop-side-init
loop-side-init c = (with_no_more (cells_of_slots c.args.net.now) [] refl, refl, omega arith)

pub over-requires : goal.over-requires
over-requires c =
    subst (λ (f : Facet). IsFacetApart f c.args.p) (sym c.facet.ensures)
    (c.requires.apart c.side-item.result (at_place c.args.rim.now c.loop-side.side-index c.side-item.result
    c.side-item.result c.loop-side-test.true c.side-item.is))

pub refill-place-requires : goal.refill-place-requires
refill-place-requires c =
    let i = c.loop-side.invariant in
    let room = c.requires.room in
    let h : HaveRoom c.loop-side.net 1 = omega (arith, room, i.1, i.2, c.loop-side-test.true) in
    subst (λ (n : List (Option Cell)). HaveRoom n 1) (sym c.slot_for-hint.ensures) h

-- one cell more is put in
pub loop-side-preserved : goal.loop-side-preserved
loop-side-preserved c =
    let i = c.loop-side.invariant in
    let e = c.refill-place.ensures in
    let f = c.slot_for-hint.ensures in
    let over : Facet → Cell = λ f. cell_over f c.args.p in
    let n = c.loop-side.side-index in
    let x = c.side-item.result in
    let rim = c.args.rim.now in
    let l = cells_of_slots c.args.net.now in
    let now = cells_of_slots c.refill-place.new.self in
    let g : map over (take n rim) ++ c.over.result ∷ [] ≡ map over (take (n + 1) rim) =
    ap (λ y. map over (take n rim) ++ y ∷ []) (c.over.ensures ∙ ap over c.facet.ensures)
    ∙ sym (map-append over (take n rim) (x ∷ [])) ∙ ap (map over) (sym
    (take_next rim n x c.loop-side-test.true c.side-item.is)) in
    let w = subst (λ (n : List (Option Cell)). AreWith (cells_of_slots n) c.over.result now) f e.with_cell in
    rw c.link.ensures (
      subst (λ (k : List Cell). AreWithAll l k now) g
          (with_more l (map over (take n rim)) (cells_of_slots c.loop-side.net) now c.over.result i.0 w),
      e.size ∙ ap length f ∙ i.1,
      (let n = e.count in
          let m = ap (λ (n : List (Option Cell)). length (cells_of_slots n)) f in
          let o = i.2 in
          omega (arith, n, m, o)),
    )

pub returns-clause-cells : goal.returns-clause-cells
returns-clause-cells c =
    subst (λ (l : List Facet). AreWithAll (cells_of_slots c.args.net.now) (map (λ f. cell_over f c.args.p) l)
    (cells_of_slots c.loop-side.net)) (take_all c.loop-side.side-index c.args.rim.now c.loop-side-test.false)
    c.loop-side.invariant.0

pub returns-clause-count : goal.returns-clause-count
returns-clause-count c =
    let n = c.loop-side.invariant.2 in
    let a = c.loop-side-test.false in
    let b = c.loop-side.auto.side-index-end in
    omega (arith, n, a, b)
