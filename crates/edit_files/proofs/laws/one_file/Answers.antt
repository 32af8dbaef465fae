use Rattle.edit_files.proofs.Judged.{one_file_of}
use Rattle.edit_files.proofs.laws.one_file.Goals as goal

pub returns : goal.returns
returns c = one_file_of
