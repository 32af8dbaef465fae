-- What crosses to C: places of points, and rows of numbers of points. Points are numbered from 0, in ascending order.
use Rattle.std.specs.Prelude.{ℕ, pos, List, [], ◌∷◌, nat_lt, ◌⊎◌}
use Rattle.std.specs.List.{prefix_len}
use Rattle.point_order.specs.Coordinates.{x_of, y_of, z_of, IsNoCoordinate}
use Rattle.point_order.specs.declared.cell.Cell.{Cell}
use Rattle.point_order.specs.declared.cell.Cell.TheVariants.{Full, Open}
use Rattle.mesh_rows.specs.declared.rows.Place.{Place}
use Rattle.mesh_rows.specs.declared.rows.EdgeRow.{EdgeRow}
use Rattle.mesh_rows.specs.declared.rows.TriangleRow.{TriangleRow}
use Rattle.mesh_rows.specs.declared.rows.CellRow.{CellRow}

-- where a point is
abbrev pub point_place : ℕ → Place
point_place p = record { x = pos (x_of p); y = pos (y_of p); z = pos (z_of p) }

-- some coordinate is none of 0 to 16383
abbrev pub LiesOutside : Place → Type 0
LiesOutside p = IsNoCoordinate p.x ⊎ IsNoCoordinate p.y ⊎ IsNoCoordinate p.z

-- the number of a point in an ascending list: how many points come before it
abbrev pub rank_of : List ℕ → ℕ → ℕ
rank_of s p = prefix_len (λ q. nat_lt q p) s

-- the numbers of the two points of an edge
abbrev pub edge_row : List ℕ → List ℕ → EdgeRow
edge_row s (a ∷ b ∷ []) = record { a = rank_of s a; b = rank_of s b }
edge_row s _ = record { a = 0; b = 0 }

-- of the three of a triangle
abbrev pub triangle_row : List ℕ → List ℕ → TriangleRow
triangle_row s (a ∷ b ∷ c ∷ []) = record { a = rank_of s a; b = rank_of s b; c = rank_of s c }
triangle_row s _ = record { a = 0; b = 0; c = 0 }

-- of the four of a tetrahedron
abbrev pub cell_row : List ℕ → List ℕ → CellRow
cell_row s (a ∷ b ∷ c ∷ d ∷ []) =
    record { a = rank_of s a; b = rank_of s b; c = rank_of s c; d = rank_of s d }
cell_row s _ = record { a = 0; b = 0; c = 0; d = 0 }

-- the Open cells of a list, as their points, in its order: the triangles of the hull
abbrev pub open_cells : List Cell → List (List ℕ)
open_cells [] = []
open_cells (Full q ∷ cells) = open_cells cells
open_cells (Open t ∷ cells) = t ∷ open_cells cells
