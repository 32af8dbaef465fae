use Rattle.del_laws.proofs.Laws.{every_point_law}
use Rattle.del_laws.proofs.every_point.Goals as goal

pub returns : goal.returns
returns c = every_point_law
