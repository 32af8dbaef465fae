-- Smallest circumscribing spheres: that of a Full cell is empty, and the Full cells that have an
-- edge or a triangle show whether its sphere is.
use Rattle.std.specs.Prelude.{◌≡◌, ℕ, pos, true, ◌*ℤ◌, ◌≤ℤ◌, List, ◌↔◌}
use Rattle.conv_laws.specs.Places.{Place}
use Rattle.conv_laws.specs.Spheres.{edge_power, triangle_power}
use Rattle.point_order.specs.Coordinates.{x_of, y_of, z_of}
use Rattle.point_order.specs.Orientation.{orientation}
use Rattle.point_order.specs.Heights.{sphere_polynomial}
use Rattle.point_order.specs.Sets.{IsIn}
use Rattle.del_laws.specs.Keys.{AreKeys}
use Rattle.del_laws.specs.Vertices.{is_full_cell}

-- the place of a point
abbrev pub place : ℕ → Place
place p = record { x = pos (x_of p); y = pos (y_of p); z = pos (z_of p) }

-- e does not lie strictly inside the smallest circumscribing sphere of the edge a, b
abbrev pub IsOffEdge : ℕ → ℕ → ℕ → Type 0
IsOffEdge a b e = pos 0 ≤ℤ edge_power (place a) (place b) (place e)

-- of the triangle a, b, c
abbrev pub IsOffTriangle : ℕ → ℕ → ℕ → ℕ → Type 0
IsOffTriangle a b c e = pos 0 ≤ℤ triangle_power (place a) (place b) (place c) (place e)

-- No point lies inside the sphere of an edge of a Full cell exactly where no point of a Full cell with the edge does.
abbrev pub EdgeByCells : Type 0
EdgeByCells =
    (s : List ℕ) (a b c d : ℕ) → AreKeys s → is_full_cell s a b c d ≡ true →
    ((x y : ℕ) → is_full_cell s a b x y ≡ true → IsOffEdge a b x) ↔ ((e : ℕ) → IsIn e s → IsOffEdge a b e)

-- No point lies inside the sphere of a triangle of a Full cell exactly where no
-- opposite point of its one or two Full cells does.
abbrev pub TriangleByCells : Type 0
TriangleByCells =
    (s : List ℕ) (a b c d : ℕ) → AreKeys s → is_full_cell s a b c d ≡ true →
    ((x : ℕ) → is_full_cell s a b c x ≡ true → IsOffTriangle a b c x) ↔ ((e : ℕ) → IsIn e s → IsOffTriangle a b c e)

-- No point lies strictly inside the plain sphere of a Full cell, whose points may stand in either orientation.
abbrev pub CellsAreEmpty : Type 0
CellsAreEmpty =
    (s : List ℕ) (a b c d e : ℕ) → AreKeys s → is_full_cell s a b c d ≡ true → IsIn e s →
    pos 0 ≤ℤ (orientation a b c d *ℤ sphere_polynomial a b c d e)
