use Rattle.std.proofs.Common.{arith}
use Rattle.std.proofs.lemmas.Int.{to_z-of_z}
use Rattle.small_spheres.specs.Inside.{edge_power}
use Rattle.small_spheres.proofs.powers.power_of_edge.Goals as goal

pub returns : goal.returns
unfolding edge_power
returns c = grind (arith, to_z-of_z)
