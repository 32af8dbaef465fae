use Rattle.std.proofs.Common.{[], ◌∷◌, get_or}
use Rattle.point_order.specs.Complex.{is_full}
use Rattle.point_order.specs.declared.cell.Cell.TheVariants.{Full}
use Rattle.complex_trial.proofs.Steps.{one_turn}
use Rattle.complex_trial.proofs.trial.push_full_from_two.Goals as goal

pub loop-k-preserved : goal.loop-k-preserved
loop-k-preserved c =
    one_turn Full (is_full c.args.points.now) (get_or c.args.points.now c.args.i 0 ∷ get_or c.args.points.now c.args.j 0
    ∷ []) 1 c.args.points.now c.loop-k.k c.loop-k.cells.items c.push_full_from_three.new.cells.items _
    c.loop-k-test.true
    c.in_ok-push_full_from_three.ensures c.loop-k.invariant
