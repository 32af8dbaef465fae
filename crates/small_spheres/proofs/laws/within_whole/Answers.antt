use Rattle.std.specs.Prelude.{◌*ℤ◌}
use Rattle.point_order.specs.Orientation.{distance, orientation}
use Rattle.small_spheres.specs.Inside.{square_of_normal}
use Rattle.small_spheres.specs.Within.{square_of_centre}
use Rattle.small_spheres.proofs.Leasts as leasts
use Rattle.small_spheres.proofs.laws.within_whole.Goals as goal

pub returns-clause-triangle : goal.returns-clause-triangle
returns-clause-triangle s a b c r =
    leasts.within_whole (distance a b *ℤ distance a c *ℤ distance b c) (square_of_normal a b c) r

pub returns-clause-cell : goal.returns-clause-cell
returns-clause-cell s a b c d r =
    leasts.within_whole (square_of_centre a b c d) (orientation a b c d *ℤ orientation a b c d) r
