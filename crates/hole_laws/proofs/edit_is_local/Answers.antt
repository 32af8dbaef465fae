use Rattle.hole_laws.proofs.EditLaws.{stays_solid, changes_reached}
use Rattle.hole_laws.proofs.edit_is_local.Goals as goal

pub returns-clause-solid : goal.returns-clause-solid
returns-clause-solid c = stays_solid

pub returns-clause-near : goal.returns-clause-near
returns-clause-near c = changes_reached
