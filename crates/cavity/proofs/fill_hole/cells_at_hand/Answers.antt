use Rattle.std.proofs.Common.{◌∙◌}
use Rattle.std.proofs.lemmas.List.{take_all}
use Rattle.cavity.proofs.Filling.{cells_more}
use Rattle.cavity.proofs.fill_hole.cells_at_hand.Goals as goal

pub loop-spot-preserved : goal.loop-spot-preserved
loop-spot-preserved c =
    cells_more c.args.spots.now c.loop-spot.spot-index c.spot-item.result c.cell.result.now c.loop-spot.cells.items
    c.push.new.self.items
    c.loop-spot-test.true c.spot-item.is c.cell.ensures c.loop-spot.invariant c.in_ok-push.ensures.items

pub returns : goal.returns
returns c = c.loop-spot.invariant ∙ take_all c.loop-spot.spot-index c.args.spots.now c.loop-spot-test.false
