use Rattle.text_sheets.proofs.Cited.{then}
use Rattle.alpha_steps.proofs.texts.put_step.Goals as goal

pub returns : goal.returns
returns g c = then (then c.put_indices.ensures c.put_threshold.ensures) c.put.ensures
