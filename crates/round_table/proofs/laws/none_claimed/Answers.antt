use Rattle.round_table.proofs.Between.{none_claimed}
use Rattle.round_table.proofs.laws.none_claimed.Goals as goal

pub returns : goal.returns
returns g c = none_claimed
