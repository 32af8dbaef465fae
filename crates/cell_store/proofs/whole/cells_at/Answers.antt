use Rattle.std.proofs.Common.{slice_index_or}
use Rattle.list_laws.proofs.Cited.{at_in}
use Rattle.cell_store.proofs.WholeLaws.{at_all, at_more, at_none, own_default}
use Rattle.cell_store.proofs.whole.cells_at.Goals as goal

pub bounds-cells-place : goal.bounds-cells-place
bounds-cells-place c =
    c.requires (slice_index_or c.args.places.now c.loop-place.place-index 0)
    (at_in c.args.places.now c.loop-place.place-index 0 c.loop-place-test.true)

pub loop-place-init : goal.loop-place-init
loop-place-init c = at_none c.args.cells.now c.args.places.now c.in_ok-list.list.items c.in_ok-list.ensures.items

pub loop-place-preserved : goal.loop-place-preserved
loop-place-preserved c =
    let places = c.args.places.now in
    let k = c.loop-place.place-index in
    let n = slice_index_or places k 0 in
    at_more c.args.cells.now places k n c.index-cells-place.result c.index-cells-place.result c.loop-place.list.items
    c.push.new.self.items c.loop-place-test.true (own_default places k 0 c.loop-place-test.true)
    (c.requires n (at_in places k 0 c.loop-place-test.true))
    c.index-cells-place.is c.in_ok-push.ensures.items c.loop-place.invariant

pub returns : goal.returns
returns c =
    at_all c.args.cells.now c.args.places.now c.loop-place.place-index c.loop-place.list.items c.loop-place-test.false
    c.loop-place.invariant
