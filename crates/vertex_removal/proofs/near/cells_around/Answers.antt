use Rattle.std.proofs.Common.{subst, List, arith}
use Rattle.std.proofs.lemmas.List.{take_all}
use Rattle.list_laws.proofs.Cited.{at_place}
use Rattle.point_order.specs.declared.cell.Cell.{Cell}
use Rattle.gift_wrap.specs.Near.{AreAdded, IsOfOne}
use Rattle.gift_wrap.proofs.Cited.{none_met, one_met}
use Rattle.vertex_removal.proofs.near.cells_around.Goals as goal

pub loop-cell-init : goal.loop-cell-init
loop-cell-init c h st k = rw c.in_ok-around.ensures.items (none_met h c.args.v c.args.star.now)

pub add_across-requires-clause-shown : goal.add_across-requires-clause-shown
add_across-requires-clause-shown c = (
  c.requires.set,
  c.requires.shown,
  ((c.requires.star_is c.cell-item.result).0
      (at_place c.args.star.now c.loop-cell.cell-index c.cell-item.result c.cell-item.result c.loop-cell-test.true
      c.cell-item.is)).0,
)

pub add_across-requires-clause-held : goal.add_across-requires-clause-held
add_across-requires-clause-held c =
    c.requires.held c.cell-item.result (at_place c.args.star.now c.loop-cell.cell-index c.cell-item.result
    c.cell-item.result c.loop-cell-test.true c.cell-item.is)

pub loop-cell-preserved : goal.loop-cell-preserved
loop-cell-preserved c h st k =
    let m = at_place c.args.star.now c.loop-cell.cell-index c.cell-item.result c.cell-item.result c.loop-cell-test.true
    c.cell-item.is in
    one_met h c.args.v c.args.star.now c.loop-cell.cell-index c.cell-item.result c.args.star.now
    c.loop-cell.around.items c.add_across.new.around.items c.loop-cell-test.true c.cell-item.is
    (c.loop-cell.invariant h st k) (c.in_ok-add_across.ensures h st ((k c.cell-item.result).0 m).0)

pub returns : goal.returns
returns c h st k =
    subst (λ (l : List Cell). AreAdded h c.args.v (IsOfOne l) c.args.star.now c.loop-cell.around.items)
    (take_all c.loop-cell.cell-index c.args.star.now (omega (arith, c.loop-cell-test.false)))
    (c.loop-cell.invariant h st k)
