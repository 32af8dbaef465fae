use Rattle.std.proofs.Common.{◌≡◌, arith}
use Rattle.std.proofs.lemmas.Int.{ints}
use Rattle.point_order.specs.Coordinates.{x_of, y_of, z_of}
use Rattle.text_readings.proofs.Cited.{packed_is}
use Rattle.edit_files.proofs.generator.point_at.Goals as goal

pub returns : goal.returns
returns c =
    let a : x_of c.in-Ok.point ≡ c.args.x = omega (arith, ints, c.in-Ok.ensures.made.0) in
    let b : y_of c.in-Ok.point ≡ c.args.y = omega (arith, ints, c.in-Ok.ensures.made.1) in
    let d : z_of c.in-Ok.point ≡ c.args.z = omega (arith, ints, c.in-Ok.ensures.made.2) in
    let e = packed_is c.in-Ok.point c.in-Ok.ensures.key in
    omega (arith, a, b, d, e)
