use Rattle.point_order.proofs.HeightLaws.{plain_not_below, plain_not_above}
use Rattle.point_order.proofs.laws.plain_half.Goals as goal

pub returns-clause-not_below : goal.returns-clause-not_below
returns-clause-not_below c = plain_not_below

pub returns-clause-not_above : goal.returns-clause-not_above
returns-clause-not_above c = plain_not_above
