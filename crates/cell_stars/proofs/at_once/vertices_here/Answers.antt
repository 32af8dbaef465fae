use Rattle.std.proofs.Common.{[]}
use Rattle.cell_stars.specs.AtOnce.{FromCellHere}
use Rattle.list_laws.proofs.Cited.{gathers}
use Rattle.cell_stars.proofs.AtOnce.{cell_here, same_gathered}
use Rattle.cell_stars.proofs.at_once.vertices_here.Goals as goal

pub loop-cell-preserved : goal.loop-cell-preserved
loop-cell-preserved c =
    cell_here c.args.grid c.args.number c.args.cells.now c.loop-cell.cell-index [] c.loop-cell.list.items
    c.add_here.new.list.items c.cell-item.result c.cell-item.result c.loop-cell-test.true c.cell-item.is
    c.in_ok-add_here.ensures c.loop-cell.invariant

pub returns-clause-vertices : goal.returns-clause-vertices
returns-clause-vertices c =
    same_gathered c.args.grid c.args.number c.args.cells.now c.loop-cell.list.items c.points_in_order.result.items
    c.points_in_order.ensures.points
    (gathers (FromCellHere c.args.grid c.args.number) c.args.cells.now c.loop-cell.cell-index [] c.loop-cell.list.items
    c.loop-cell-test.false c.loop-cell.invariant)
