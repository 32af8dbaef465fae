use Rattle.mesh_reader.proofs.Judged.{no_fault_of_mesh}
use Rattle.mesh_reader.proofs.laws.mesh_has_no_fault.Goals as goal

pub returns : goal.returns
returns c = no_fault_of_mesh
