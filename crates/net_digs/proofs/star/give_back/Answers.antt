use Rattle.std.proofs.Common.{sym, ◌∙◌, ap, subst, List, Option, length, take, arith}
use Rattle.std.proofs.lemmas.List.{take_all}
use Rattle.list_laws.proofs.Cited.{take_next}
use Rattle.point_order.specs.declared.cell.Cell.{Cell}
use Rattle.cell_slots.specs.Nets.{AreWith, AreWithAll, cells_of_slots}
use Rattle.cell_slots.specs.Stars.{HaveRoom}
use Rattle.net_digs.proofs.Filling.{with_more}
use Rattle.cell_slots.proofs.Cited.{moved_back}
use Rattle.net_digs.proofs.star.give_back.Goals as goal

pub refill-requires : goal.refill-requires
refill-requires c =
    let i = c.loop-spot.invariant in
    let room = c.requires in
    let h : HaveRoom c.loop-spot.net 1 = omega (arith, room, i.1, i.2, c.loop-spot-test.true) in
    subst (λ (n : List (Option Cell)). HaveRoom n 1) (sym c.forget_free.ensures) h

-- one cell more is put back
pub loop-spot-preserved : goal.loop-spot-preserved
loop-spot-preserved c =
    let i = c.loop-spot.invariant in
    let e = c.refill.ensures in
    let f = c.forget_free.ensures in
    let l = cells_of_slots c.args.net.now in
    let now = cells_of_slots c.refill.new.self in
    let gone = c.args.gone.now in
    let w = subst (λ (n : List (Option Cell)). AreWith (cells_of_slots n) c.spot-item.result now) f
    (subst (λ (q : Cell). AreWith (cells_of_slots c.forget_free.new.self) q now) c.cell.ensures e.with_cell) in (
      subst (λ (g : List Cell). AreWithAll l g now)
          (sym (take_next gone c.loop-spot.spot-index c.spot-item.result c.loop-spot-test.true c.spot-item.is))
          (with_more l (take c.loop-spot.spot-index gone) (cells_of_slots c.loop-spot.net) now c.spot-item.result i.0
          w),
      e.size ∙ ap length f ∙ i.1,
      (let n = e.count in
          let m = ap (λ (n : List (Option Cell)). length (cells_of_slots n)) f in
          let o = i.2 in
          omega (arith, n, m, o)),
    )

pub returns-clause-cells : goal.returns-clause-cells
returns-clause-cells c =
    moved_back (cells_of_slots c.args.net.now) c.args.gone.now (cells_of_slots c.loop-spot.net)
    (subst (λ (g : List Cell). AreWithAll (cells_of_slots c.args.net.now) g (cells_of_slots c.loop-spot.net))
    (take_all c.loop-spot.spot-index c.args.gone.now c.loop-spot-test.false) c.loop-spot.invariant.0)

pub returns-clause-count : goal.returns-clause-count
returns-clause-count c =
    let n = c.loop-spot.invariant.2 in
    let a = c.loop-spot-test.false in
    let b = c.loop-spot.auto.spot-index-end in
    omega (arith, n, a, b)
