use Rattle.conv_laws.proofs.Affine.{orient_carried, lifted_carried}
use Rattle.conv_laws.proofs.carried_by_weights.Goals as goal

pub returns-clause-orientation : goal.returns-clause-orientation
returns-clause-orientation c = orient_carried

pub returns-clause-lifted_determinant : goal.returns-clause-lifted_determinant
returns-clause-lifted_determinant c = lifted_carried
