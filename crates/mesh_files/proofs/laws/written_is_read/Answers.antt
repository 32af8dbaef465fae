use Rattle.mesh_files.proofs.Rereading.{written_is_read}
use Rattle.mesh_files.proofs.laws.written_is_read.Goals as goal

pub returns : goal.returns
returns c = written_is_read
