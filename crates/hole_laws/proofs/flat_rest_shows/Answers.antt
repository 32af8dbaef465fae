use Rattle.hole_laws.proofs.RemovalLaws.{solid_near, flat_rest_joined}
use Rattle.hole_laws.proofs.flat_rest_shows.Goals as goal

pub returns-clause-solid : goal.returns-clause-solid
returns-clause-solid c = solid_near

pub returns-clause-flat : goal.returns-clause-flat
returns-clause-flat c = flat_rest_joined
