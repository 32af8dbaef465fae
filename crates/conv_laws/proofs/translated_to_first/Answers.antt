use Rattle.conv_laws.proofs.Spheres.{lifted_by_steps, sphere_by_steps}
use Rattle.conv_laws.proofs.translated_to_first.Goals as goal

pub returns-clause-lifted_determinant : goal.returns-clause-lifted_determinant
returns-clause-lifted_determinant c = lifted_by_steps

pub returns-clause-sphere : goal.returns-clause-sphere
returns-clause-sphere c = sphere_by_steps
