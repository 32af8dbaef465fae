use Rattle.list_laws.proofs.Distinct.{at_most}
use Rattle.list_laws.proofs.fewer_members.Goals as goal

pub returns : goal.returns
returns g c = at_most
