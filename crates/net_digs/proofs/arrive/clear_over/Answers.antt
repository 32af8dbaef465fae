use Rattle.std.proofs.Common.{refl, ◌≡◌, ◌∙◌, ap, sym, subst, ◌<◌, ◌≤◌, ◌+◌, ◌++◌, [], List, length, map, take, arith}
use Rattle.std.proofs.Common.{inl, inr}
use Rattle.std.proofs.lemmas.List.{length-map, take_all}
use Rattle.list_laws.proofs.Cited.{apart_place, at_place, from_append, take_next}
use Rattle.point_order.specs.declared.cell.Cell.{Cell}
use Rattle.point_order.specs.declared.cell.Facet.{Facet}
use Rattle.point_order.specs.Sets.{IsIn}
use Rattle.hole_laws.specs.Digs.{IsFacetApart}
use Rattle.hole_laws.specs.Lists.{cell_over}
use Rattle.cell_slots.specs.Nets.{AreMoved, IsWithout, cells_of_slots}
use Rattle.net_digs.proofs.Arrivals.{mapped_at}
use Rattle.cell_slots.proofs.Cited.{moved_on, moved_with_none}
use Rattle.cell_net.proofs.Cited.{taken}
use Rattle.net_digs.proofs.arrive.clear_over.Goals as goal

pub loop-side-init : goal.loop-side-init
loop-side-init c = (moved_with_none (cells_of_slots c.args.net.now) [] refl, refl)

pub over-cell-requires : goal.over-cell-requires
over-cell-requires c =
    subst (λ (f : Facet). IsFacetApart f c.args.p) (sym c.facet.ensures)
    (c.requires.apart c.side-item.result (at_place c.args.rim.now c.loop-side.side-index c.side-item.result
    c.side-item.result c.loop-side-test.true c.side-item.is))

-- the cell was not taken out yet
pub clear-requires : goal.clear-requires
clear-requires c =
    let over : Facet → Cell = λ f. cell_over f c.args.p in
    let i = c.loop-side.side-index in
    let rim = c.args.rim.now in
    let fresh = map over rim in
    let x = over c.side-item.result in
    let at = mapped_at over rim i c.side-item.result c.loop-side-test.true c.side-item.is in
    let lt : i < length fresh = (let n = length-map rim over in let t = c.loop-side-test.true in omega (arith, n, t)) in
    let e : c.over-cell.result ≡ x = c.over-cell.ensures ∙ ap over c.facet.ensures in
    let net = cells_of_slots c.loop-side.net in
    let there = (c.loop-side.invariant.0.members x).0 (c.requires.listed x (at_place fresh i x x lt at)) in
    subst (λ (q : Cell). IsIn q net) (sym e) (elim (from_append x net (take i fresh) there) [
      | inl j ↦ j
      | inr j ↦ absurd (apart_place fresh i x c.requires.once lt at j)
    ])

-- one cell more is out
pub loop-side-preserved : goal.loop-side-preserved
loop-side-preserved c =
    let over : Facet → Cell = λ f. cell_over f c.args.p in
    let i = c.loop-side.side-index in
    let rim = c.args.rim.now in
    let fresh = map over rim in
    let x = over c.side-item.result in
    let at = mapped_at over rim i c.side-item.result c.loop-side-test.true c.side-item.is in
    let lt : i < length fresh = (let n = length-map rim over in let t = c.loop-side-test.true in omega (arith, n, t)) in
    let e : c.over-cell.result ≡ x = c.over-cell.ensures ∙ ap over c.facet.ensures in
    let old = cells_of_slots c.args.net.now in
    let net = cells_of_slots c.loop-side.net in
    let now = cells_of_slots c.clear.new.self in
    rw c.note_free.ensures (
      moved_on old (net ++ take i fresh) (now ++ take (i + 1) fresh) c.loop-side.invariant.0
          (subst (λ (v : List Cell). AreMoved (net ++ take i fresh) (now ++ v)) (sym (take_next fresh i x lt at))
          (taken net (take i fresh) now x (subst (λ (q : Cell). IsWithout net q now) e c.clear.ensures.taken))),
      c.clear.ensures.size ∙ c.loop-side.invariant.1,
    )

pub returns-clause-cells : goal.returns-clause-cells
returns-clause-cells c =
    let over : Facet → Cell = λ f. cell_over f c.args.p in
    let rim = c.args.rim.now in
    let fresh = map over rim in
    let i = c.loop-side.side-index in
    let most : length fresh ≤ i = (let n = length-map rim over in let t = c.loop-side-test.false in omega
    (arith, n, t)) in
    subst (λ (v : List Cell). AreMoved (cells_of_slots c.args.net.now) (cells_of_slots c.loop-side.net ++ v))
    (take_all i fresh most) c.loop-side.invariant.0
