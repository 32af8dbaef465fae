use Rattle.list_laws.proofs.Cited.{gather_none}
use Rattle.cell_stars.specs.Gathering.{FromCell}
use Rattle.list_laws.proofs.Cited.{gathers}
use Rattle.cell_stars.proofs.WriteLaws.{cell_step}
use Rattle.cell_stars.proofs.vertices.add_vertices.Goals as goal

pub loop-cell-init : goal.loop-cell-init
loop-cell-init c = gather_none FromCell c.args.cells.now c.args.list.now.items

pub loop-cell-preserved : goal.loop-cell-preserved
loop-cell-preserved c = cell_step c.args.cells.now c.loop-cell.cell-index c.args.list.now.items c.loop-cell.list.items
    c.add_points.new.list.items c.cell-item.result c.cell-item.result c.loop-cell-test.true c.cell-item.is
    c.in_ok-add_points.ensures c.loop-cell.invariant

pub returns : goal.returns
returns c = gathers FromCell c.args.cells.now c.loop-cell.cell-index c.args.list.now.items c.loop-cell.list.items
    c.loop-cell-test.false c.loop-cell.invariant
