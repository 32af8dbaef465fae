use Rattle.std.proofs.Common.{arith}
use Rattle.std.proofs.lemmas.Int.{to_z-of_z}
use Rattle.point_order.specs.Orientation.{distance}
use Rattle.small_spheres.proofs.radii.product_of_sides.Goals as goal

pub returns : goal.returns
unfolding distance
returns c = grind (arith, to_z-of_z)
