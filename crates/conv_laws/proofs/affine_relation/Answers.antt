use Rattle.conv_laws.proofs.Affine.{weights_add_up, weights_locate, weights_of_heights}
use Rattle.conv_laws.proofs.affine_relation.Goals as goal

pub returns-clause-sum : goal.returns-clause-sum
returns-clause-sum c = weights_add_up

pub returns-clause-place : goal.returns-clause-place
returns-clause-place c = weights_locate

pub returns-clause-height : goal.returns-clause-height
returns-clause-height c = weights_of_heights
