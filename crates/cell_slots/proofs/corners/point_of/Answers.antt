use Rattle.std.proofs.Common.{arith}
use Rattle.std.proofs.lemmas.Int.{ints}
use Rattle.point_order.specs.Coordinates.{x_of, y_of, z_of}
use Rattle.cell_slots.proofs.corners.point_of.Goals as goal

pub returns : goal.returns
unfolding x_of y_of z_of
returns c h =
    let m = c.in-Ok.ensures.made in
    omega (arith, ints, h, m.0, m.1, m.2, c.in-Ok.ensures.key)
