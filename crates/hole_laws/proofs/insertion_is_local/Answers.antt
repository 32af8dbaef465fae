use Rattle.hole_laws.proofs.Laws.{fresh_are_near, joined_are_reached}
use Rattle.hole_laws.proofs.insertion_is_local.Goals as goal

pub returns-clause-near : goal.returns-clause-near
returns-clause-near c = fresh_are_near

pub returns-clause-joined : goal.returns-clause-joined
returns-clause-joined c = joined_are_reached
