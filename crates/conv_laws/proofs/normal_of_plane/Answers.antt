use Rattle.conv_laws.proofs.Solidity.{height_over_plane, cramers_rule, normal_by_heights}
use Rattle.conv_laws.proofs.normal_of_plane.Goals as goal

pub returns-clause-height : goal.returns-clause-height
returns-clause-height c = height_over_plane

pub returns-clause-cramers_rule : goal.returns-clause-cramers_rule
returns-clause-cramers_rule c = cramers_rule

pub returns-clause-told_by_heights : goal.returns-clause-told_by_heights
returns-clause-told_by_heights c = normal_by_heights
