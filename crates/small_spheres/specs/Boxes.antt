-- Whether the circumscribing sphere of a cell lies strictly inside a box, away from each point outside it. The box has
-- the points from the corner low to the corner high, both its own.
use Rattle.std.specs.Prelude.{ℕ, Bool, ℤ, pos, ◌<◌, ◌+ℤ◌, ◌-ℤ◌, ◌*ℤ◌, ◌==◌, ◌&&◌, ◌||◌, ◌⊎◌}
use Rattle.std.specs.Int.Signed.{lt_z}
use Rattle.point_order.specs.Coordinates.{x_of, y_of, z_of}
use Rattle.point_order.specs.Orientation.{x_from, y_from, z_from, orientation}
use Rattle.small_spheres.specs.Within.{cell_centre_x, cell_centre_y, cell_centre_z, square_of_centre}

-- the point e lies outside the box
abbrev pub IsBeyond : ℕ → ℕ → ℕ → Type 0
IsBeyond low high e =
    (x_of e < x_of low) ⊎ (x_of high < x_of e)
    ⊎ (y_of e < y_of low) ⊎ (y_of high < y_of e)
    ⊎ (z_of e < z_of low) ⊎ (z_of high < z_of e)

-- Along one axis, 2 O times the way from a cell's centre to the first plane of points outside the box, at its low end
-- and at its high end: with n of N, and s the step from the cell's first point to the corner.
unfoldable pub low_gap : ℤ → ℤ → ℤ → ℤ
low_gap o n s = n -ℤ pos 2 *ℤ o *ℤ (s -ℤ pos 1)

unfoldable pub high_gap : ℤ → ℤ → ℤ → ℤ
high_gap o n s = pos 2 *ℤ o *ℤ (s +ℤ pos 1) -ℤ n

-- the centre lies inside that plane, and farther from it than the radius: g has the sign of O, and g^2 > |N|^2
abbrev pub is_clear : ℤ → ℤ → ℤ → Bool
is_clear o square g = lt_z (pos 0) (o *ℤ g) && lt_z square (g *ℤ g)

-- at both ends, of which one that no point lies beyond is free
abbrev pub is_inside_ends : ℤ → ℤ → ℤ → ℕ → ℕ → ℤ → ℤ → Bool
is_inside_ends o square n low high s t =
    (low == 0 || is_clear o square (low_gap o n s)) && (high == 16383 || is_clear o square (high_gap o n t))

-- the sphere of a, b, c, d, which may stand in either orientation, lies strictly inside
abbrev pub is_inside_box : ℕ → ℕ → ℕ → ℕ → ℕ → ℕ → Bool
is_inside_box a b c d low high =
    is_inside_ends (orientation a b c d) (square_of_centre a b c d) (cell_centre_x a b c d)
    (x_of low) (x_of high) (x_from a low) (x_from a high)
    && is_inside_ends (orientation a b c d) (square_of_centre a b c d) (cell_centre_y a b c d)
    (y_of low) (y_of high) (y_from a low) (y_from a high)
    && is_inside_ends (orientation a b c d) (square_of_centre a b c d) (cell_centre_z a b c d)
    (z_of low) (z_of high) (z_from a low) (z_from a high)
