use Rattle.cell_stars.proofs.AddLaws.{Put, put_all, put_more, put_none, still_here}
use Rattle.cell_stars.proofs.cells.Cells.add_placed.Goals as goal

pub loop-i-init : goal.loop-i-init
loop-i-init c = put_none c.args.placed.now c.args.writes.now.items

pub add_cell-requires : goal.add_cell-requires
add_cell-requires c =
    still_here (Put c.args.placed.now c.loop-i.i-index) c.args.self.now.place c.args.writes.now.items
    c.loop-i.writes.items c.loop-i.invariant c.requires

pub loop-i-preserved : goal.loop-i-preserved
loop-i-preserved c =
    put_more c.args.placed.now c.loop-i.i-index c.loop-i-item.result c.args.writes.now.items c.loop-i.writes.items
    c.add_cell.new.writes.items c.loop-i-test.true c.loop-i-item.is c.loop-i.invariant c.in_ok-add_cell.ensures

pub returns : goal.returns
returns c =
    put_all c.args.placed.now c.loop-i.i-index c.args.writes.now.items c.loop-i.writes.items c.loop-i-test.false
    c.loop-i.invariant
