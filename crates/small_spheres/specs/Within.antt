-- Whether the squared radius of the smallest circumscribing sphere of an edge, a triangle or a cell is at most alpha,
-- which is counted in sixteenths. The squared radius is a fraction, and is compared by multiplying out.
use Rattle.std.specs.Prelude.{ℕ, Bool, ℤ, pos, ◌*ℤ◌}
use Rattle.std.specs.Int.Signed.{le_z}
use Rattle.point_order.specs.Orientation.{normal_x, normal_y, normal_z, square_of_step, distance, orientation}
use Rattle.small_spheres.specs.Inside.{dot, square_of_normal}

-- 4 |a - b|^2 <= alpha: the squared radius of an edge is |a - b|^2 / 4
abbrev pub is_edge_within : ℕ → ℕ → ℕ → Bool
is_edge_within a b alpha = le_z (pos 4 *ℤ distance a b) (pos alpha)

-- 4 |a - b|^2 |a - c|^2 |b - c|^2 <= |n|^2 alpha: the squared radius of a triangle is
-- the product of the squared sides by 4 |n|^2
abbrev pub is_triangle_within : ℕ → ℕ → ℕ → ℕ → Bool
is_triangle_within a b c alpha =
    le_z (pos 4 *ℤ (distance a b *ℤ distance a c *ℤ distance b c)) (square_of_normal a b c *ℤ pos alpha)

-- The coordinates of N = |u|^2 (v x w) + |v|^2 (w x u) + |w|^2 (u x v), with u, v, w the steps from a to b, c, d:
-- 2 O times the step from a to the centre of the sphere through the four, where O is their orientation.
unfoldable pub cell_centre_x : ℕ → ℕ → ℕ → ℕ → ℤ
cell_centre_x a b c d =
    dot (distance a b) (distance a c) (distance a d) (normal_x a c d) (normal_x a d b) (normal_x a b c)

unfoldable pub cell_centre_y : ℕ → ℕ → ℕ → ℕ → ℤ
cell_centre_y a b c d =
    dot (distance a b) (distance a c) (distance a d) (normal_y a c d) (normal_y a d b) (normal_y a b c)

unfoldable pub cell_centre_z : ℕ → ℕ → ℕ → ℕ → ℤ
cell_centre_z a b c d =
    dot (distance a b) (distance a c) (distance a d) (normal_z a c d) (normal_z a d b) (normal_z a b c)

-- |N|^2
unfoldable pub square_of_centre : ℕ → ℕ → ℕ → ℕ → ℤ
square_of_centre a b c d = square_of_step (cell_centre_x a b c d) (cell_centre_y a b c d) (cell_centre_z a b c d)

-- 4 |N|^2 <= O^2 alpha: the squared radius of a cell is |N|^2 / (4 O^2)
abbrev pub is_cell_within : ℕ → ℕ → ℕ → ℕ → ℕ → Bool
is_cell_within a b c d alpha =
    le_z (pos 4 *ℤ square_of_centre a b c d) (orientation a b c d *ℤ orientation a b c d *ℤ pos alpha)
