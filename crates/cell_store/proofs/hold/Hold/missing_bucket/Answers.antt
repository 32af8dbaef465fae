use Rattle.std.proofs.Common.{arith}
use Rattle.list_laws.proofs.Cited.{at_none}
use Rattle.cell_store.specs.Missing.{ArePointsHeld, IsBucketMissing}
use Rattle.cell_store.proofs.Held.{cell_missing, cells_more, cells_all}
use Rattle.cell_store.proofs.hold.Hold.missing_bucket.Goals as goal

pub returns-in-Some : goal.returns-in-Some
returns-in-Some c = cell_missing c.args.self.now c.args.cells.now c.loop-cell.cell-index c.cell-item.result
    c.points.result.now c.in-Some.b c.loop-cell-test.true c.cell-item.is c.points.ensures.points c.in-Some.ensures

pub loop-cell-preserved : goal.loop-cell-preserved
loop-cell-preserved c =
    cells_more c.args.self.now c.args.cells.now c.loop-cell.cell-index c.cell-item.result c.points.result.now
    c.loop-cell-test.true c.cell-item.is c.points.ensures.points
    (at_none c.missing_bucket_of_points.result (ArePointsHeld c.args.self.now c.points.result.now)
    (λ b. IsBucketMissing c.args.self.now c.points.result.now b) c.in_default.not-Some
    c.missing_bucket_of_points.ensures) c.loop-cell.invariant

pub returns : goal.returns
returns c = cells_all c.args.self.now c.args.cells.now c.loop-cell.cell-index (omega arith) c.loop-cell.invariant
