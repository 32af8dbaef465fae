-- Which points lie strictly inside the smallest circumscribing sphere of an edge or a triangle.
-- The power of e to a sphere is the square of its distance from the centre less
-- the squared radius: negative strictly inside.
use Rattle.std.specs.Prelude.{ℕ, Bool, ℤ, pos, ◌+ℤ◌, ◌-ℤ◌, ◌*ℤ◌}
use Rattle.std.specs.Int.Signed.{lt_z}
use Rattle.point_order.specs.Orientation.{x_from, y_from, z_from, minor, normal_x, normal_y, normal_z, square_of_step}
use Rattle.point_order.specs.Orientation.{distance}

-- the scalar product u . v
unfoldable pub dot : ℤ → ℤ → ℤ → ℤ → ℤ → ℤ → ℤ
dot ux uy uz vx vy vz = ux *ℤ vx +ℤ uy *ℤ vy +ℤ uz *ℤ vz

-- (a - e) . (b - e), the power of e to the smallest circumscribing sphere of the
-- edge a, b, which has the edge as a diameter
unfoldable pub edge_power : ℕ → ℕ → ℕ → ℤ
edge_power a b e = dot (x_from e a) (y_from e a) (z_from e a) (x_from e b) (y_from e b) (z_from e b)

-- e lies strictly inside the smallest circumscribing sphere of the edge a, b
abbrev pub is_inside_edge : ℕ → ℕ → ℕ → Bool
is_inside_edge a b e = lt_z (edge_power a b e) (pos 0)

-- |n|^2, where n is the normal (b - a) x (c - a)
unfoldable pub square_of_normal : ℕ → ℕ → ℕ → ℤ
square_of_normal a b c = square_of_step (normal_x a b c) (normal_y a b c) (normal_z a b c)

-- The coordinates of V = |c - a|^2 (n x (b - a)) + |b - a|^2 ((c - a) x n), with n the normal:
-- 2 |n|^2 times the step from a to the centre of the circle through a, b, c.
unfoldable pub centre_x : ℕ → ℕ → ℕ → ℤ
centre_x a b c =
    distance a c *ℤ minor (normal_y a b c) (normal_z a b c) (y_from a b) (z_from a b)
    +ℤ distance a b *ℤ minor (y_from a c) (z_from a c) (normal_y a b c) (normal_z a b c)

unfoldable pub centre_y : ℕ → ℕ → ℕ → ℤ
centre_y a b c =
    distance a c *ℤ minor (normal_z a b c) (normal_x a b c) (z_from a b) (x_from a b)
    +ℤ distance a b *ℤ minor (z_from a c) (x_from a c) (normal_z a b c) (normal_x a b c)

unfoldable pub centre_z : ℕ → ℕ → ℕ → ℤ
centre_z a b c =
    distance a c *ℤ minor (normal_x a b c) (normal_y a b c) (x_from a b) (y_from a b)
    +ℤ distance a b *ℤ minor (x_from a c) (y_from a c) (normal_x a b c) (normal_y a b c)

-- |e - a|^2 |n|^2 - (e - a) . V, the power of e to the smallest circumscribing
-- sphere of the triangle a, b, c, times |n|^2
unfoldable pub triangle_power : ℕ → ℕ → ℕ → ℕ → ℤ
triangle_power a b c e =
    distance a e *ℤ square_of_normal a b c
    -ℤ dot (x_from a e) (y_from a e) (z_from a e) (centre_x a b c) (centre_y a b c) (centre_z a b c)

-- e lies strictly inside the smallest circumscribing sphere of the triangle a, b, c
abbrev pub is_inside_triangle : ℕ → ℕ → ℕ → ℕ → Bool
is_inside_triangle a b c e = lt_z (triangle_power a b c e) (pos 0)
