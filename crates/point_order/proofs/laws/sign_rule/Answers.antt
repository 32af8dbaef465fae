use Rattle.point_order.proofs.HeightLaws.{plain_sign, tie_sign, tie_decided}
use Rattle.point_order.proofs.laws.sign_rule.Goals as goal

pub returns-clause-plain : goal.returns-clause-plain
returns-clause-plain c = plain_sign

pub returns-clause-tie : goal.returns-clause-tie
returns-clause-tie c = tie_sign

pub returns-clause-decided : goal.returns-clause-decided
returns-clause-decided c = tie_decided
