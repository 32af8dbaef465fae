use Rattle.edit_files.proofs.Written.{written_is_file}
use Rattle.edit_files.proofs.laws.written_is_read.Goals as goal

pub returns : goal.returns
returns c = written_is_file
