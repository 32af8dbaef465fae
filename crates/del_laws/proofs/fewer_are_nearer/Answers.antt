use Rattle.del_laws.proofs.Laws.{fewer_are_nearer}
use Rattle.del_laws.proofs.fewer_are_nearer.Goals as goal

pub returns : goal.returns
returns g c = fewer_are_nearer _
