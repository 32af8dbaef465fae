use Rattle.std.proofs.Common.{◌≡◌, take}
use Rattle.point_order.specs.Sets.{IsIn}
use Rattle.cell_stars.proofs.AddLaws.{point_more, point_none, points_all, still_here}
use Rattle.cell_stars.proofs.cells.Cells.add_cell.Goals as goal

pub loop-p-init : goal.loop-p-init
loop-p-init c = point_none c.points-p-items.result.now c.args.i c.args.writes.now.items

pub add_to_star-requires : goal.add_to_star-requires
add_to_star-requires c =
    still_here (λ q j. IsIn q (take c.loop-p.p-index c.points-p-items.result.now) ×
    (c.args.i ≡ j)) c.args.self.now.place
    c.args.writes.now.items c.loop-p.writes.items c.loop-p.invariant c.requires

pub loop-p-preserved : goal.loop-p-preserved
loop-p-preserved c =
    point_more c.points-p-items.result.now c.loop-p.p-index c.p-item.result c.args.i c.args.writes.now.items
    c.loop-p.writes.items c.add_to_star.new.writes.items c.loop-p-test.true c.p-item.is c.loop-p.invariant
    c.in_ok-add_to_star.ensures

pub returns : goal.returns
returns c =
    points_all c.args.cell.now c.points-p-items.result.now c.loop-p.p-index c.args.i c.args.writes.now.items
    c.loop-p.writes.items c.points-p-items.ensures.points c.loop-p-test.false c.loop-p.invariant
