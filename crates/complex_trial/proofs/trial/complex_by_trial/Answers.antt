use Rattle.complex_trial.proofs.Steps.{whole_complex}
use Rattle.complex_trial.proofs.trial.complex_by_trial.Goals as goal

pub returns : goal.returns
returns c =
    whole_complex c.args.points.now c.new-cells.result.items c.push_full.new.cells.items c.push_open.new.cells.items
    c.new-cells.ensures.items
    c.in_ok-push_full.ensures c.in_ok-push_open.ensures
