use Rattle.del_laws.proofs.Ranks.{nearer_across, nearer_inside, some_triple_towards}
use Rattle.del_laws.proofs.steps_of_a_walk.Goals as goal

pub returns-clause-across : goal.returns-clause-across
returns-clause-across c = nearer_across

pub returns-clause-inside : goal.returns-clause-inside
returns-clause-inside c = nearer_inside

pub returns-clause-towards : goal.returns-clause-towards
returns-clause-towards c = some_triple_towards
