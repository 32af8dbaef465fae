use Rattle.mesh_reader.proofs.Judged.{one_fault_of}
use Rattle.mesh_reader.proofs.laws.one_fault.Goals as goal

pub returns : goal.returns
returns c = one_fault_of
