use Rattle.std.proofs.Common.{[]}
use Rattle.point_order.specs.Complex.{is_full}
use Rattle.point_order.specs.declared.cell.Cell.TheVariants.{Full}
use Rattle.complex_trial.proofs.Steps.{one_turn}
use Rattle.complex_trial.proofs.trial.push_full.Goals as goal

pub loop-i-preserved : goal.loop-i-preserved
loop-i-preserved c =
    one_turn Full (is_full c.args.points.now) [] 3 c.args.points.now c.loop-i.i c.loop-i.cells.items
    c.push_full_from_one.new.cells.items _ c.loop-i-test.true
    c.in_ok-push_full_from_one.ensures c.loop-i.invariant
