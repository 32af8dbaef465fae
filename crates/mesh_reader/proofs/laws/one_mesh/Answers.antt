use Rattle.mesh_reader.proofs.Judged.{one_mesh_of}
use Rattle.mesh_reader.proofs.laws.one_mesh.Goals as goal

pub returns : goal.returns
returns c = one_mesh_of
