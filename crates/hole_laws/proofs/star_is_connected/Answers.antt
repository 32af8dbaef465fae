use Rattle.hole_laws.proofs.AroundPoint.{star_connected}
use Rattle.hole_laws.proofs.star_is_connected.Goals as goal

pub returns : goal.returns
returns c = star_connected
