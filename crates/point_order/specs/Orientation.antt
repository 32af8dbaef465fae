-- On which side of a plane a point lies.
use Rattle.std.specs.Prelude.{ℕ, Bool, ℤ, pos, ◌+ℤ◌, ◌-ℤ◌, ◌*ℤ◌, not, ◌&&◌}
use Rattle.std.specs.Int.Signed.{lt_z}
unfoldable pub use Rattle.whole_ring.specs.Determinants.{minor, triple}
use Rattle.point_order.specs.Coordinates.{x_of, y_of, z_of}

-- the coordinates of b - a
unfoldable pub x_from : ℕ → ℕ → ℤ
x_from a b = pos (x_of b) -ℤ pos (x_of a)

unfoldable pub y_from : ℕ → ℕ → ℤ
y_from a b = pos (y_of b) -ℤ pos (y_of a)

unfoldable pub z_from : ℕ → ℕ → ℤ
z_from a b = pos (z_of b) -ℤ pos (z_of a)

-- The orientation of four points, (b - a) . ((c - a) x (d - a)). It is 0 where the four lie in one plane.
unfoldable pub orientation : ℕ → ℕ → ℕ → ℕ → ℤ
orientation a b c d =
    triple (x_from a b) (y_from a b) (z_from a b)
    (x_from a c) (y_from a c) (z_from a c)
    (x_from a d) (y_from a d) (z_from a d)

-- the number is 0
abbrev pub is_zero : ℤ → Bool
is_zero z = not (lt_z (pos 0) z) && not (lt_z z (pos 0))

-- the four lie in one plane: they are not independent
abbrev pub is_flat : ℕ → ℕ → ℕ → ℕ → Bool
is_flat a b c d = is_zero (orientation a b c d)

-- the coordinates of (b - a) x (c - a), the normal of the plane through the three
unfoldable pub normal_x : ℕ → ℕ → ℕ → ℤ
normal_x a b c = minor (y_from a b) (z_from a b) (y_from a c) (z_from a c)

unfoldable pub normal_y : ℕ → ℕ → ℕ → ℤ
normal_y a b c = minor (z_from a b) (x_from a b) (z_from a c) (x_from a c)

unfoldable pub normal_z : ℕ → ℕ → ℕ → ℤ
normal_z a b c = minor (x_from a b) (y_from a b) (x_from a c) (y_from a c)

-- the three lie on one line: their normal is 0
abbrev pub is_collinear : ℕ → ℕ → ℕ → Bool
is_collinear a b c = is_zero (normal_x a b c) && is_zero (normal_y a b c) && is_zero (normal_z a b c)

-- the square of the length of a step
unfoldable pub square_of_step : ℤ → ℤ → ℤ → ℤ
square_of_step x y z = x *ℤ x +ℤ y *ℤ y +ℤ z *ℤ z

-- the square of the distance of two points
unfoldable pub distance : ℕ → ℕ → ℤ
distance a p = square_of_step (x_from a p) (y_from a p) (z_from a p)
