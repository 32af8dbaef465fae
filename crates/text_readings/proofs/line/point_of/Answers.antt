use Rattle.std.proofs.Common.{◌≡◌, sym, ◌∙◌, arith}
use Rattle.std.proofs.lemmas.Int.{ints}
use Rattle.point_order.specs.Coordinates.{x_of, y_of, z_of}
use Rattle.text_readings.proofs.Points.{point_at_is}
use Rattle.text_readings.proofs.line.point_of.Goals as goal

pub returns-in-Ok : goal.returns-in-Ok
returns-in-Ok c =
    let a : x_of c.in-Ok.point ≡ c.in-Some.x = omega (arith, ints, c.in-Ok.ensures.made.0, c.in-Some.ensures.bound.0) in
    let b : y_of c.in-Ok.point ≡ c.in-Some.y = omega (arith, ints, c.in-Ok.ensures.made.1, c.in-Some.ensures.bound.1) in
    let d : z_of c.in-Ok.point ≡ c.in-Some.z = omega (arith, ints, c.in-Ok.ensures.made.2, c.in-Some.ensures.bound.2) in
    sym (c.in-Some.ensures.value ∙ point_at_is c.in-Ok.point c.in-Some.x c.in-Some.y c.in-Some.z a b d
    c.in-Ok.ensures.key)
