use Rattle.edit_files.proofs.Generated.{generated_anchored}
use Rattle.edit_files.proofs.laws.generated_is_anchored.Goals as goal

pub returns : goal.returns
returns c = generated_anchored
