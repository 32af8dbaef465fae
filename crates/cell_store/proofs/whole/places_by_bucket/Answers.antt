use Rattle.cell_store.proofs.WholeLaws.{cells_all, cells_more, cells_none, lists_in}
use Rattle.cell_store.proofs.whole.places_by_bucket.Goals as goal

pub loop-place-init : goal.loop-place-init
loop-place-init c =
    cells_none c.args.grid c.args.cells.now (lists_in c.in_ok-lists.lists.items) c.in_ok-lists.ensures.count
    c.in_ok-lists.ensures.empty

pub loop-place-preserved : goal.loop-place-preserved
loop-place-preserved c =
    cells_more c.args.grid c.args.cells.now c.loop-place.place c.index-cells-place.result
    (lists_in c.loop-place.lists.items)
    (lists_in c.push_place.new.lists.items) c.loop-place-test.true c.index-cells-place.is c.loop-place.invariant
    c.in_ok-push_place.ensures

pub returns : goal.returns
returns c =
    cells_all c.args.grid c.args.cells.now c.loop-place.place (lists_in c.loop-place.lists.items)
    c.loop-place-test.false
    c.loop-place.invariant
