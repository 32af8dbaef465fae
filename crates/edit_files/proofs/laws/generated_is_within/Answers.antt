use Rattle.edit_files.proofs.Generated.{generated_within}
use Rattle.edit_files.proofs.laws.generated_is_within.Goals as goal

pub returns : goal.returns
returns c = generated_within
