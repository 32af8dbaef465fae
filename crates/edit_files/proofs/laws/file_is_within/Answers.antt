use Rattle.edit_files.proofs.Written.{file_is_within}
use Rattle.edit_files.proofs.laws.file_is_within.Goals as goal

pub returns : goal.returns
returns c = file_is_within
