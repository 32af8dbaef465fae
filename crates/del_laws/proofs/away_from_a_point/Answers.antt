use Rattle.del_laws.proofs.Laws.{away_from_a_point}
use Rattle.del_laws.proofs.away_from_a_point.Goals as goal

pub returns : goal.returns
returns c = away_from_a_point
