use Rattle.del_laws.proofs.Closed.{star_law}
use Rattle.del_laws.proofs.star_law.Goals as goal

pub returns : goal.returns
returns c = star_law
