use Rattle.edit_files.proofs.Generated.{generated_solid}
use Rattle.edit_files.proofs.laws.generated_is_solid.Goals as goal

pub returns : goal.returns
returns c = generated_solid
