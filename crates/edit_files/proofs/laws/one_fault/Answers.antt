use Rattle.edit_files.proofs.Judged.{one_fault_of}
use Rattle.edit_files.proofs.laws.one_fault.Goals as goal

pub returns : goal.returns
returns c = one_fault_of
