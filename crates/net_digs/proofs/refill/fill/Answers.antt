use Rattle.std.proofs.Common.{refl, sym, ◌∙◌, ap, subst, List, Option, length, take, [], arith}
use Rattle.std.proofs.lemmas.List.{take_all}
use Rattle.list_laws.proofs.Cited.{take_next}
use Rattle.point_order.specs.declared.cell.Cell.{Cell}
use Rattle.cell_slots.specs.Nets.{AreWith, AreWithAll, cells_of_slots}
use Rattle.cell_slots.specs.Stars.{HaveRoom}
use Rattle.net_digs.proofs.Filling.{with_more}
use Rattle.cell_slots.proofs.Cited.{with_no_more}
use Rattle.net_digs.proofs.refill.fill.Goals as goal

pub loop-cell-init : goal.loop-cell-init
loop-cell-init c =
    let l = cells_of_slots c.args.net.now in
    let e = c.join_rim.ensures in (
      subst (λ (n : List (Option Cell)). AreWithAll l [] (cells_of_slots n)) (sym e) (with_no_more l [] refl),
      ap length e,
      (let n = ap (λ (n : List (Option Cell)). length (cells_of_slots n)) e in omega (arith, n)),
    )

pub refill-place-requires : goal.refill-place-requires
refill-place-requires c =
    let i = c.loop-cell.invariant in
    let room = c.requires in
    let h : HaveRoom c.loop-cell.net 1 = omega (arith, room, i.1, i.2, c.loop-cell-test.true) in
    subst (λ (n : List (Option Cell)). HaveRoom n 1) (sym c.free_hint-hint.ensures) h

-- one cell more is put in
pub loop-cell-preserved : goal.loop-cell-preserved
loop-cell-preserved c =
    let i = c.loop-cell.invariant in
    let e = c.refill-place.ensures in
    let f = c.free_hint-hint.ensures in
    let g = c.join_cell.ensures in
    let l = cells_of_slots c.args.net.now in
    let now = cells_of_slots c.refill-place.new.self in
    let cells = c.args.cells.now in
    let w = subst (λ (n : List (Option Cell)). AreWith (cells_of_slots n) c.cell-item.result now) f
    (subst (λ (q : Cell). AreWith (cells_of_slots c.free_hint-hint.new.self) q now) c.of-corners.ensures e.with_cell) in
    rw g (
      subst (λ (k : List Cell). AreWithAll l k now)
          (sym (take_next cells c.loop-cell.cell-index c.cell-item.result c.loop-cell-test.true c.cell-item.is))
          (with_more l (take c.loop-cell.cell-index cells) (cells_of_slots c.loop-cell.net) now c.cell-item.result i.0
          w),
      e.size ∙ ap length f ∙ i.1,
      (let n = e.count in
          let m = ap (λ (n : List (Option Cell)). length (cells_of_slots n)) f in
          let o = i.2 in
          omega (arith, n, m, o)),
    )

pub returns-clause-cells : goal.returns-clause-cells
returns-clause-cells c =
    subst (λ (g : List Cell). AreWithAll (cells_of_slots c.args.net.now) g (cells_of_slots c.loop-cell.net))
    (take_all c.loop-cell.cell-index c.args.cells.now c.loop-cell-test.false) c.loop-cell.invariant.0

pub returns-clause-count : goal.returns-clause-count
returns-clause-count c =
    let n = c.loop-cell.invariant.2 in
    let a = c.loop-cell-test.false in
    let b = c.loop-cell.auto.cell-index-end in
    omega (arith, n, a, b)
