use Rattle.alpha_steps.proofs.Told.{step_is}
use Rattle.alpha_steps.proofs.steps.step_at.Goals as goal

pub returns : goal.returns
returns g c =
    step_is c.args.faces.now c.args.leasts.now c.args.index c.index-faces-index.result
    0 c.threshold_of.result _
    c.requires.faces c.requires.leasts c.index-faces-index.is c.threshold_of.ensures
