use Rattle.conv_laws.proofs.Spheres.{sphere_about, paraboloid_is_convex}
use Rattle.conv_laws.proofs.paraboloid_is_convex.Goals as goal

pub returns-clause-about : goal.returns-clause-about
returns-clause-about c = sphere_about

pub returns-clause-convex : goal.returns-clause-convex
returns-clause-convex c = paraboloid_is_convex
