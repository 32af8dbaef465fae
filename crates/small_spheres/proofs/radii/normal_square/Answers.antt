use Rattle.std.proofs.Common.{arith}
use Rattle.std.proofs.lemmas.Int.{to_z-of_z}
use Rattle.point_order.specs.Orientation.{normal_x, normal_y, normal_z, square_of_step}
use Rattle.small_spheres.specs.Inside.{dot, square_of_normal}
use Rattle.small_spheres.proofs.radii.normal_square.Goals as goal

pub returns-clause-value : goal.returns-clause-value
unfolding normal_x normal_y normal_z square_of_normal square_of_step dot
returns-clause-value c = grind (arith, to_z-of_z)
