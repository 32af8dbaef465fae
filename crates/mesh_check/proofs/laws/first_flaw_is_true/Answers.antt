use Rattle.mesh_check.proofs.Verdicts.{flaw_is_true}
use Rattle.mesh_check.proofs.laws.first_flaw_is_true.Goals as goal

pub returns : goal.returns
returns c = flaw_is_true
