use Rattle.edit_history.proofs.OpeningSolid.{opening_law, four_law}
use Rattle.edit_history.proofs.laws.opening_four_shows_solid.Goals as goal

pub returns-clause-solid : goal.returns-clause-solid
returns-clause-solid c = opening_law

pub returns-clause-four : goal.returns-clause-four
returns-clause-four c = four_law
