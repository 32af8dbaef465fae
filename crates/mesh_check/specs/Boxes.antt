-- Which points are seen to be outside a sphere without a look at each: those of a box that is farther from the centre
-- than the points on the sphere. Lengths are those of twice the orientation times what they measure, so all are whole.
use Rattle.std.specs.Prelude.{◌≡◌, ℕ, ℤ, pos, neg_ℤ, true, ◌≤◌, ◌⊎◌, ◌+ℤ◌, ◌-ℤ◌, ◌*ℤ◌, ◌≤ℤ◌, ◌<ℤ◌}
use Rattle.point_order.specs.Coordinates.{x_of, y_of, z_of}
use Rattle.point_order.specs.Laws.{AreFiveKeys}
use Rattle.point_order.specs.Orientation.{orientation, distance, normal_x, normal_y, normal_z, x_from, y_from, z_from}
use Rattle.point_order.specs.Spheres.{is_outside}

-- the step from a to the centre of the sphere through the four, times twice their orientation
abbrev pub cell_centre_x : ℕ → ℕ → ℕ → ℕ → ℤ
cell_centre_x a b c d = distance a b *ℤ normal_x a c d +ℤ distance a c *ℤ normal_x a d b +ℤ distance a d *ℤ normal_x a b
    c

abbrev pub cell_centre_y : ℕ → ℕ → ℕ → ℕ → ℤ
cell_centre_y a b c d = distance a b *ℤ normal_y a c d +ℤ distance a c *ℤ normal_y a d b +ℤ distance a d *ℤ normal_y a b
    c

abbrev pub cell_centre_z : ℕ → ℕ → ℕ → ℕ → ℤ
cell_centre_z a b c d = distance a b *ℤ normal_z a c d +ℤ distance a c *ℤ normal_z a d b +ℤ distance a d *ℤ normal_z a b
    c

-- how far a step of a coordinate from a leads past the centre
abbrev pub past : ℤ → ℤ → ℤ → ℤ
past o step centre = pos 2 *ℤ o *ℤ step -ℤ centre

-- the square of a number
abbrev pub squared : ℤ → ℤ
squared x = x *ℤ x

-- Where the centre is at least so far from e in each coordinate, and the squares of these three add up to more than the
-- square of its distance from a, e is outside, whichever orientation the four have.
abbrev pub FarIsOutside : Type 0
FarIsOutside =
    (a b c d e : ℕ) (x y z : ℤ) → AreFiveKeys a b c d e →
    squared x ≤ℤ squared (past (orientation a b c d) (x_from a e) (cell_centre_x a b c d)) →
    squared y ≤ℤ squared (past (orientation a b c d) (y_from a e) (cell_centre_y a b c d)) →
    squared z ≤ℤ squared (past (orientation a b c d) (z_from a e) (cell_centre_z a b c d)) →
    (squared (cell_centre_x a b c d) +ℤ squared (cell_centre_y a b c d) +ℤ squared (cell_centre_z a b c d))
    <ℤ (squared x +ℤ squared y +ℤ squared z) →
    is_outside a b c d e ≡ true

-- ---- boxes

-- a number that is no more than how far each step from lo to hi leads past the centre, or falls short of it
abbrev pub IsGap : ℤ → ℤ → ℤ → ℤ → ℤ → Type 0
IsGap o lo hi centre gap =
    (gap ≡ pos 0) ⊎ ((pos 0 ≤ℤ gap) × (gap ≤ℤ past o lo centre)) ⊎ ((pos 0 ≤ℤ gap) × (gap ≤ℤ neg_ℤ (past o hi centre)))

-- e is in the box with these two corners
pub record IsInBox (low high e : ℕ) : Type 0 where
  pub x_low : x_of low ≤ x_of e
  pub x_high : x_of e ≤ x_of high
  pub y_low : y_of low ≤ y_of e
  pub y_high : y_of e ≤ y_of high
  pub z_low : z_of low ≤ z_of e
  pub z_high : z_of e ≤ z_of high

-- Where the box is so far from the centre that the squares of its gaps add up to more than the square of the distance
-- of a, each point in it is outside.
abbrev pub FarBoxIsOutside : Type 0
FarBoxIsOutside =
    (a b c d low high e : ℕ) (x y z : ℤ) → AreFiveKeys a b c d e → pos 0 <ℤ orientation a b c d → IsInBox low high e →
    IsGap (orientation a b c d) (x_from a low) (x_from a high) (cell_centre_x a b c d) x →
    IsGap (orientation a b c d) (y_from a low) (y_from a high) (cell_centre_y a b c d) y →
    IsGap (orientation a b c d) (z_from a low) (z_from a high) (cell_centre_z a b c d) z →
    (squared (cell_centre_x a b c d) +ℤ squared (cell_centre_y a b c d) +ℤ squared (cell_centre_z a b c d))
    <ℤ (squared x +ℤ squared y +ℤ squared z) →
    is_outside a b c d e ≡ true
