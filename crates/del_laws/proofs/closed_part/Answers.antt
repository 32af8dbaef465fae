use Rattle.del_laws.proofs.Closed.{closed_part}
use Rattle.del_laws.proofs.closed_part.Goals as goal

pub returns : goal.returns
returns c = closed_part
