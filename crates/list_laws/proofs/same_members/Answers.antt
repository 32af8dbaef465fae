use Rattle.list_laws.proofs.Ascending.{same_members}
use Rattle.list_laws.proofs.same_members.Goals as goal

pub returns : goal.returns
returns g = same_members
