use Rattle.del_laws.proofs.ListedParts.{listed_every_point}
use Rattle.del_laws.proofs.listed_points.Goals as goal

pub returns : goal.returns
returns c = listed_every_point
