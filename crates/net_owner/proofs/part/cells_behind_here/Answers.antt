use Rattle.std.proofs.Common.{subst, List}
use Rattle.std.proofs.lemmas.List.{take_all}
use Rattle.list_laws.proofs.Cited.{at_place}
use Rattle.point_order.specs.declared.cell.Cell.{Cell}
use Rattle.cell_slots.specs.Stars.{AreBehindAll}
use Rattle.net_digs.proofs.Cited.{behind_next, behind_no_cell}
use Rattle.net_owner.proofs.part.cells_behind_here.Goals as goal

pub loop-spot-init : goal.loop-spot-init
loop-spot-init c others s k = rw c.in_ok-cells.ensures.items (behind_no_cell s c.args.star.now)

pub push_behind_here-requires : goal.push_behind_here-requires
push_behind_here-requires c =
    at_place c.args.gone.now c.loop-spot.spot-index c.spot-item.result c.spot-item.result c.loop-spot-test.true
    c.spot-item.is

-- one cell more is looked behind
pub loop-spot-preserved : goal.loop-spot-preserved
loop-spot-preserved c others s k =
    behind_next s c.spot-item.result c.args.gone.now c.loop-spot.spot-index c.args.star.now c.loop-spot.cells.items
    c.push_behind_here.new.cells.items c.loop-spot-test.true c.spot-item.is (c.loop-spot.invariant others s k)
    (c.in_ok-could.ensures c.if-not-could.false others s k)

pub returns : goal.returns
returns c others s k =
    subst (λ (l : List Cell). AreBehindAll s l c.args.star.now c.loop-spot.cells.items)
    (take_all c.loop-spot.spot-index c.args.gone.now c.loop-spot-test.false) (c.loop-spot.invariant others s k)
