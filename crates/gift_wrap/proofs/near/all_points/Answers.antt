use Rattle.std.proofs.Common.{◌∙◌, ap}
use Rattle.std.specs.List.{flat_map}
use Rattle.std.proofs.lemmas.List.{take_all}
use Rattle.point_order.specs.Facets.{points_of}
use Rattle.gift_wrap.proofs.Points.{points_more}
use Rattle.gift_wrap.proofs.near.all_points.Goals as goal

pub loop-cell-preserved : goal.loop-cell-preserved
loop-cell-preserved c =
    points_more c.args.cells.now c.loop-cell.cell-index c.cell-item.result c.points.result.now c.loop-cell.points.items
    c.extend_from_slice.new.self.items
    c.loop-cell-test.true c.cell-item.is c.points.ensures.points c.loop-cell.invariant
    c.in_ok-extend_from_slice.ensures.items

pub returns : goal.returns
returns c =
    c.loop-cell.invariant ∙ ap (flat_map points_of) (take_all c.loop-cell.cell-index c.args.cells.now
    c.loop-cell-test.false)
