use Rattle.del_laws.proofs.Laws.{some_facet_behind, crossing_towards}
use Rattle.del_laws.proofs.walk_towards_a_point.Goals as goal

pub returns-clause-behind : goal.returns-clause-behind
returns-clause-behind c = some_facet_behind

pub returns-clause-crossing : goal.returns-clause-crossing
returns-clause-crossing c = crossing_towards
