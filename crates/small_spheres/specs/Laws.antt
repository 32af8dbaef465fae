-- What it is to be within a whole squared radius.
use Rattle.std.specs.Prelude.{◌≡◌, ℕ, ◌*◌, pos, ◌*ℤ◌}
use Rattle.std.specs.Int.Signed.{le_z}
use Rattle.point_order.specs.Orientation.{distance, orientation}
use Rattle.small_spheres.specs.Inside.{square_of_normal}
use Rattle.small_spheres.specs.Within.{is_edge_within, is_triangle_within, is_cell_within, square_of_centre}

-- an edge is within sixteen times r where |a - b|^2 <= 4 r
abbrev pub EdgeWithinWhole : Type 0
EdgeWithinWhole = (a b r : ℕ) → is_edge_within a b (16 * r) ≡ le_z (distance a b) (pos 4 *ℤ pos r)

-- a triangle where |a - b|^2 |a - c|^2 |b - c|^2 <= 4 |n|^2 r
abbrev pub TriangleWithinWhole : Type 0
TriangleWithinWhole =
    (a b c r : ℕ) → is_triangle_within a b c (16 * r)
    ≡ le_z (distance a b *ℤ distance a c *ℤ distance b c) (pos 4 *ℤ square_of_normal a b c *ℤ pos r)

-- and a cell where |N|^2 <= 4 O^2 r
abbrev pub CellWithinWhole : Type 0
CellWithinWhole =
    (a b c d r : ℕ) → is_cell_within a b c d (16 * r)
    ≡ le_z (square_of_centre a b c d) (pos 4 *ℤ (orientation a b c d *ℤ orientation a b c d) *ℤ pos r)
