use Rattle.round_table.proofs.Staying.{stays}
use Rattle.round_table.proofs.laws.contents_stay.Goals as goal

pub returns : goal.returns
returns g c = stays
