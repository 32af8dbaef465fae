use Rattle.list_laws.proofs.Cited.{gather_none}
use Rattle.cell_stars.specs.Gathering.{FromPoint}
use Rattle.cell_stars.proofs.WriteLaws.{points_added, point_in}
use Rattle.cell_stars.proofs.vertices.add_points.Goals as goal

pub loop-p-init : goal.loop-p-init
loop-p-init c = gather_none FromPoint c.points-p-items.result.now c.args.list.now.items

pub loop-p-preserved : goal.loop-p-preserved
loop-p-preserved c = point_in c.points-p-items.result.now c.loop-p.p-index c.args.list.now.items c.loop-p.list.items
    c.add_point.new.list.items c.p-item.result c.loop-p-test.true c.p-item.is c.in_ok-add_point.ensures
    c.loop-p.invariant

pub returns : goal.returns
returns c = points_added c.args.cell.now c.points-p-items.result.now c.loop-p.p-index c.args.list.now.items
    c.loop-p.list.items c.points-p-items.ensures.points c.loop-p-test.false c.loop-p.invariant
