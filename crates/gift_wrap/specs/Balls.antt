-- What is kept of the sphere of a triple and a point above it, to tell many other points' sides of it.
use Rattle.std.specs.Prelude.{◌≡◌, ℕ, pos, ◌<ℤ◌, ◌*ℤ◌, ◌-ℤ◌, Option, None, Some}
use Rattle.whole_ring.specs.Bounds.{IsWithin}
use Rattle.point_order.specs.Heights.{sphere_polynomial}
use Rattle.point_order.specs.Orientation.{x_from, y_from, z_from, distance, orientation}
use Rattle.point_order.specs.Sizes.{greatest_orientation}
use Rattle.gift_wrap.specs.declared.ball.Ball.{Ball}

-- a minor times a square, less another and with a third: 3 times 2 16383^2 times 3 16383^2
abbrev pub greatest_mixed : ℕ
greatest_mixed = 1296720062323752978

-- such a number times a square
abbrev pub greatest_ball_term : ℕ
greatest_ball_term = 1044129454823828663600873526

-- The last point is above a, b, c. Of each point the in-sphere polynomial is the height times the square of its
-- distance from a, less the product of the step to it and (x, y, z).
pub record IsBallOf (a b c : ℕ) (ball : Ball) : Type 0 where
  pub above : pos 0 <ℤ orientation a b c ball.last
  pub value : (e : ℕ) → sphere_polynomial a b c ball.last e ≡ ball.height *ℤ distance a e -ℤ ball.x *ℤ x_from a e
      -ℤ ball.y *ℤ y_from a e -ℤ ball.z *ℤ z_from a e
  pub height_within : IsWithin greatest_orientation ball.height
  pub x_within : IsWithin greatest_mixed ball.x
  pub y_within : IsWithin greatest_mixed ball.y
  pub z_within : IsWithin greatest_mixed ball.z

-- the last point, if there is one
abbrev pub last_of_ball : Option Ball → Option ℕ
last_of_ball None = None
last_of_ball (Some ball) = Some ball.last
