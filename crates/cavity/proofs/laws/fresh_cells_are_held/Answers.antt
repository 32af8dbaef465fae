use Rattle.cavity.proofs.Filling.{fresh_are_held}
use Rattle.cavity.proofs.laws.fresh_cells_are_held.Goals as goal

pub returns : goal.returns
returns c = fresh_are_held
