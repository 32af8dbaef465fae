use Rattle.std.proofs.Common.{ap, length}
use Rattle.cell_store.specs.Buckets.{cells_in, content_of}
use Rattle.cell_store.specs.Stars.{cells_to_come}
use Rattle.cell_conflict.proofs.Cited.{in_items, none_in, of_items}
use Rattle.cell_walk.proofs.Searching.{at_first, one_fits, one_not, at_last}
use Rattle.cell_walk.proofs.search.least_in.Goals as goal

pub loop-cell-init : goal.loop-cell-init
loop-cell-init c =
    at_first c.args.hold.now c.args.inside (cells_in c.args.hold.now.places c.args.b)
    (cells_to_come c.into_iter-cell-iterator.result) c.args.least
    (λ x i. of_items c.args.hold.now c.args.b (content_of c.bucket.result.now)
    (cells_to_come c.into_iter-cell-iterator.result) x c.bucket.ensures.bucket
    (rw c.into_iter-cell-iterator.ensures.into_iter_gives c.cells-cell-items.ensures) i)
    (λ x i. in_items c.args.hold.now c.args.b (content_of c.bucket.result.now)
    (cells_to_come c.into_iter-cell-iterator.result) x c.bucket.ensures.bucket
    (rw c.into_iter-cell-iterator.ensures.into_iter_gives c.cells-cell-items.ensures) i)

pub loop-cell-preserved-then-fits : goal.loop-cell-preserved-then-fits
loop-cell-preserved-then-fits c =
    one_fits c.args.hold.now c.args.inside (cells_in c.args.hold.now.places c.args.b) (cells_to_come c.next.new.self)
    (cells_to_come c.loop-cell.cell-iterator) c.args.least c.loop-cell.best c.in-Some.cell.now c.lesser.result
    c.in-Some.ensures.steps c.loop-cell.invariant c.if-fits.ensures c.lesser.ensures.one c.lesser.ensures.best
    c.lesser.ensures.cell

pub loop-cell-preserved : goal.loop-cell-preserved
loop-cell-preserved c =
    one_not c.args.hold.now c.args.inside (cells_in c.args.hold.now.places c.args.b) (cells_to_come c.next.new.self)
    (cells_to_come c.loop-cell.cell-iterator) c.args.least c.loop-cell.best c.in-Some.cell.now
    c.in-Some.ensures.steps c.loop-cell.invariant c.if-fits.ensures

pub returns : goal.returns
returns c =
    at_last c.args.hold.now c.args.inside (cells_in c.args.hold.now.places c.args.b)
    (cells_to_come c.loop-cell.cell-iterator) c.args.least c.loop-cell.best
    (λ d i. none_in (cells_to_come c.loop-cell.cell-iterator) d (ap length c.in-None.ensures.steps.0) i)
    c.loop-cell.invariant
