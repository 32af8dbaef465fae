use Rattle.hole_laws.proofs.RemovalLaws.{cells_of_rest, refilled_from_link, coming_are_near}
use Rattle.hole_laws.proofs.removal_law.Goals as goal

pub returns-clause-rest : goal.returns-clause-rest
returns-clause-rest c = cells_of_rest

pub returns-clause-refilled : goal.returns-clause-refilled
returns-clause-refilled c = refilled_from_link

pub returns-clause-near : goal.returns-clause-near
returns-clause-near c = coming_are_near
