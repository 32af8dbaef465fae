use Rattle.mesh_reader.proofs.Judged.{mesh_or_fault_of}
use Rattle.mesh_reader.proofs.laws.mesh_or_fault.Goals as goal

pub returns : goal.returns
returns c = mesh_or_fault_of
