use Rattle.edit_files.proofs.Judged.{some_answer}
use Rattle.edit_files.proofs.laws.file_or_fault.Goals as goal

pub returns : goal.returns
returns c = some_answer
