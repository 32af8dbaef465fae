-- How points, cells and facets are written: a point as `(0, 0, 2)`, and the points of the others between brackets.
use Rattle.std.specs.Prelude.{ℕ, List, [], ◌∷◌, ◌++◌, codes, decimal}
use Rattle.point_order.specs.Coordinates.{x_of, y_of, z_of}
use Rattle.point_order.specs.declared.cell.Cell.{Cell}
use Rattle.point_order.specs.declared.cell.Cell.TheVariants.{Full, Open}
use Rattle.point_order.specs.declared.cell.Facet.{Facet}
use Rattle.point_order.specs.declared.cell.Facet.TheVariants.{Three, Two}

-- the three coordinates of a point
abbrev pub point_text : ℕ → List ℕ
point_text p =
    codes "(" ++ decimal (x_of p) ++ codes ", " ++ decimal (y_of p) ++ codes ", " ++ decimal (z_of p) ++ codes ")"

-- points with a comma between two, and an end behind the last
unfoldable pub points_to : List ℕ → List ℕ → List ℕ
points_to end [] = end
points_to end (p ∷ []) = point_text p ++ end
points_to end (p ∷ q ∷ l) = point_text p ++ (codes ", " ++ points_to end (q ∷ l))

-- points alone
abbrev pub points_text : List ℕ → List ℕ
points_text l = codes "[" ++ points_to (codes "]") l

-- points and the infinite vertex
abbrev pub open_text : List ℕ → List ℕ
open_text l = codes "[" ++ points_to (codes ", infinite]") l

abbrev pub cell_text : Cell → List ℕ
cell_text (Full q) = points_text q
cell_text (Open t) = open_text t

abbrev pub facet_text : Facet → List ℕ
facet_text (Three t) = points_text t
facet_text (Two p) = open_text p
