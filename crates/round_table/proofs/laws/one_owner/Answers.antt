use Rattle.round_table.proofs.Between.{one_owner}
use Rattle.round_table.proofs.laws.one_owner.Goals as goal

pub returns : goal.returns
returns g c = one_owner
