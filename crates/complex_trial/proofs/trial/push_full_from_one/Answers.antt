use Rattle.std.proofs.Common.{[], ◌∷◌, get_or}
use Rattle.point_order.specs.Complex.{is_full}
use Rattle.point_order.specs.declared.cell.Cell.TheVariants.{Full}
use Rattle.complex_trial.proofs.Steps.{one_turn}
use Rattle.complex_trial.proofs.trial.push_full_from_one.Goals as goal

pub loop-j-preserved : goal.loop-j-preserved
loop-j-preserved c =
    one_turn Full (is_full c.args.points.now) (get_or c.args.points.now c.args.i 0 ∷ []) 2 c.args.points.now c.loop-j.j
    c.loop-j.cells.items c.push_full_from_two.new.cells.items _ c.loop-j-test.true
    c.in_ok-push_full_from_two.ensures c.loop-j.invariant
