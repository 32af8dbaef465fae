use Rattle.mesh_check.proofs.Verdicts.{good_is_complex}
use Rattle.mesh_check.proofs.laws.good_is_complex.Goals as goal

pub returns : goal.returns
returns c = good_is_complex
