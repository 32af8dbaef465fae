use Rattle.std.proofs.Common.{[]}
use Rattle.point_order.specs.Complex.{is_open}
use Rattle.point_order.specs.declared.cell.Cell.TheVariants.{Open}
use Rattle.complex_trial.proofs.Steps.{one_turn}
use Rattle.complex_trial.proofs.trial.push_open.Goals as goal

pub loop-i-preserved : goal.loop-i-preserved
loop-i-preserved c =
    one_turn Open (is_open c.args.points.now) [] 2 c.args.points.now c.loop-i.i c.loop-i.cells.items
    c.push_open_from_one.new.cells.items _ c.loop-i-test.true
    c.in_ok-push_open_from_one.ensures c.loop-i.invariant
