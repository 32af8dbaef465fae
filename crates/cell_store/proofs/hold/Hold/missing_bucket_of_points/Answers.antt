use Rattle.list_laws.proofs.Cited.{at_place}
use Rattle.cell_store.proofs.Held.{point_missing, points_more}
use Rattle.cell_store.proofs.hold.Hold.missing_bucket_of_points.Goals as goal

pub returns-then-not-has : goal.returns-then-not-has
returns-then-not-has c =
    point_missing c.args.self.now c.args.points.now c.grid-grid.result c.p-item.result c.bucket_of-b.result c.has.result
    (at_place c.args.points.now c.loop-p.p-index c.p-item.result c.p-item.result c.loop-p-test.true c.p-item.is)
    c.grid-grid.ensures.grid c.bucket_of-b.ensures.number c.bucket_of-b.ensures.below c.grid-grid.ensures.places
    c.has.ensures c.if-not-has.true

pub loop-p-preserved : goal.loop-p-preserved
loop-p-preserved c =
    points_more c.args.self.now c.args.points.now c.loop-p.p-index c.grid-grid.result c.p-item.result
    c.bucket_of-b.result c.has.result c.loop-p-test.true c.p-item.is
    c.grid-grid.ensures.grid c.bucket_of-b.ensures.number c.has.ensures c.if-not-has.false c.loop-p.invariant
