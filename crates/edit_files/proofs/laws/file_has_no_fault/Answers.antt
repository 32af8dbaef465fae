use Rattle.edit_files.proofs.Judged.{no_fault_of}
use Rattle.edit_files.proofs.laws.file_has_no_fault.Goals as goal

pub returns : goal.returns
returns c = no_fault_of
