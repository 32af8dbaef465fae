use Rattle.del_laws.proofs.StarLaw.{base}
use Rattle.del_laws.proofs.base_of_edits.Goals as goal

pub returns : goal.returns
returns c = base
