use Rattle.std.proofs.Common.{◌∙◌, ap, arith}
use Rattle.list_laws.proofs.Cited.{at_none}
use Rattle.point_order.specs.Facets.{points_of}
use Rattle.cell_store.specs.Missing.{ArePointsHeld, IsBucketMissing}
use Rattle.cell_store.proofs.Held.{cell_missing, cells_more, cells_all}
use Rattle.cell_store.proofs.hold.Hold.missing_bucket_of_spots.Goals as goal

pub returns-in-Some : goal.returns-in-Some
returns-in-Some c = cell_missing c.args.self.now c.args.spots.now c.loop-spot.spot-index c.spot-item.result
    c.points.result.now c.in-Some.b c.loop-spot-test.true c.spot-item.is
    (c.points.ensures.points ∙ ap points_of c.cell.ensures) c.in-Some.ensures

pub loop-spot-preserved : goal.loop-spot-preserved
loop-spot-preserved c =
    cells_more c.args.self.now c.args.spots.now c.loop-spot.spot-index c.spot-item.result c.points.result.now
    c.loop-spot-test.true c.spot-item.is (c.points.ensures.points ∙ ap points_of c.cell.ensures)
    (at_none c.missing_bucket_of_points.result (ArePointsHeld c.args.self.now c.points.result.now)
    (λ b. IsBucketMissing c.args.self.now c.points.result.now b) c.in_default.not-Some
    c.missing_bucket_of_points.ensures) c.loop-spot.invariant

pub returns : goal.returns
returns c = cells_all c.args.self.now c.args.spots.now c.loop-spot.spot-index (omega arith) c.loop-spot.invariant
