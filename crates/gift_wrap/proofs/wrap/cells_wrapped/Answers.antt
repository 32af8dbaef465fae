use Rattle.std.proofs.Common.{sym, subst, List, ◌≡◌, ◌==◌, ◌-◌, length, vec_len, arith}
use Rattle.list_laws.proofs.Cited.{at_place, not_both, same_from, same_true}
use Rattle.point_order.specs.declared.cell.Cell.{Cell}
use Rattle.point_order.specs.Sets.{IsIn}
use Rattle.gift_wrap.specs.declared.wrap.Side.{Side}
use Rattle.gift_wrap.proofs.Wrapping.{IsWrapped, hole_wraps, wrap_begun, open_facet, wrap_more, wrap_done}
use Rattle.gift_wrap.proofs.wrap.cells_wrapped.Goals as goal

pub wrap-init : goal.wrap-init
wrap-init c =
    subst (λ (l : List Cell). IsWrapped c.args.points.now c.args.v l c.in-Some.sides.items)
    (sym c.in_ok-cells.ensures.items)
    (wrap_begun c.args.points.now c.args.v c.args.star.now c.in-Some.sides.items c.requires
    (rw c.in-Some.is at c.in_ok-sides.ensures))

pub cell_on_side-requires-clause-wraps : goal.cell_on_side-requires-clause-wraps
cell_on_side-requires-clause-wraps c = hole_wraps c.args.points.now c.args.v c.args.star.now c.requires

pub cell_on_side-requires-clause-facet : goal.cell_on_side-requires-clause-facet
cell_on_side-requires-clause-facet c =
    let k = hole_wraps c.args.points.now c.args.v c.args.star.now c.requires in
    let sides = c.deref.result.now in
    let item = c.in-Some-last.ensures.item in
    let m : IsIn c.in-Some-last.side.now sides = at_place sides (length sides - 1) c.in-Some-last.side.now
    c.in-Some-last.side.now (omega (arith, item.3.0)) (item.3.1 c.in-Some-last.side.now) in
    open_facet c.args.points.now c.args.v k c.wrap.cells.items c.wrap.sides.items c.wrap.invariant
    c.in-Some-last.side.now (subst (λ (l : List Side). IsIn c.in-Some-last.side.now l) c.deref.ensures.value m)

pub wrap-preserved : goal.wrap-preserved
wrap-preserved c =
    let k = hole_wraps c.args.points.now c.args.v c.args.star.now c.requires in
    let new : ¬ (IsIn c.in-Some-cell_on_side.cell c.wrap.cells.items) = λ m. not_both c.has_cell.result
    (c.has_cell.ensures.1 (subst (λ (l : List Cell). IsIn c.in-Some-cell_on_side.cell l)
    (sym c.deref-in-wrap.ensures.value) m)) c.if-has_cell.false in
    rw c.in_ok-push.ensures.items (wrap_more c.args.points.now c.args.v k c.wrap.cells.items c.wrap.sides.items
    c.wrap.invariant c.in-Some-cell_on_side.cell c.in-Some-cell_on_side.ensures new c.meet_facets.new.sides.items
    c.in_ok-meet_facets.ensures)

pub returns-then-not-is_empty : goal.returns-then-not-is_empty
returns-then-not-is_empty c =
    let k = hole_wraps c.args.points.now c.args.v c.args.star.now c.requires in
    wrap_done c.args.points.now c.args.v k c.wrap.cells.items c.wrap.sides.items c.wrap.invariant
    (omega (
      arith,
      c.wrap.cells.ok.0,
      λ (e : vec_len c.wrap.cells ≡ 0). not_both (vec_len c.wrap.cells == 0)
          (same_true (vec_len c.wrap.cells) 0 e) (sym c.if-not-is_empty.ensures),
    ))
    (omega (arith, c.wrap.sides.ok.0, same_from (vec_len c.wrap.sides) 0 (sym c.if-is_empty.ensures)))
