use Rattle.std.proofs.Common.{arith}
use Rattle.std.proofs.lemmas.Int.{to_z-of_z}
use Rattle.point_order.specs.Orientation.{normal_x, normal_y, normal_z}
use Rattle.exact_orient.proofs.collinear.Goals as goal

pub returns : goal.returns
unfolding normal_x normal_y normal_z
returns c = grind (arith, to_z-of_z)
