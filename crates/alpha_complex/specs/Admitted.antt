-- Which faces of the complex of a set are admitted at alpha, and of which kind they are. A set is an ascending list
-- of keys.
use Rattle.std.specs.Prelude.{ℕ, Bool, true, false, ◌&&◌, List, [], ◌∷◌, ◌++◌, if◌then◌else◌}
use Rattle.std.specs.List.{list_all, list_any}
use Rattle.point_order.specs.declared.cell.Cell.{Cell}
use Rattle.point_order.specs.declared.cell.Cell.TheVariants.{Full, Open}
use Rattle.point_order.specs.Complex.{complex}
use Rattle.point_order.specs.Sets.{is_among}
use Rattle.point_order.specs.Subsets.{subsets}
use Rattle.small_spheres.specs.Within.{is_edge_within, is_triangle_within, is_cell_within}
use Rattle.face_list.specs.Faces.{full_cells, cells_with}
use Rattle.gabriel_faces.specs.Gabriel.{is_gabriel}
use Rattle.alpha_complex.specs.declared.shape.Kind.{Kind}
use Rattle.alpha_complex.specs.declared.shape.Kind.TheVariants.{Singular, Regular, Interior}

-- the squared radius of the face's smallest circumscribing sphere is at most alpha; that of a point is 0
abbrev pub is_within : ℕ → List ℕ → Bool
is_within alpha (a ∷ b ∷ []) = is_edge_within a b alpha
is_within alpha (a ∷ b ∷ c ∷ []) = is_triangle_within a b c alpha
is_within alpha (a ∷ b ∷ c ∷ d ∷ []) = is_cell_within a b c d alpha
is_within alpha _ = true

-- the faces inside a Full cell: its points, pairs and triples, and the cell itself
abbrev pub faces_inside : List ℕ → List (List ℕ)
faces_inside q = subsets 1 q ++ subsets 2 q ++ subsets 3 q ++ subsets 4 q

-- the face has all these points
abbrev pub contains : List ℕ → List ℕ → Bool
contains face ps = list_all (λ p. is_among p face) ps

-- the face is Gabriel, and its smallest circumscribing sphere is within alpha
abbrev pub is_small : List ℕ → ℕ → List ℕ → Bool
is_small s alpha face = is_gabriel s face && is_within alpha face

-- a face is admitted where some face of the complex that contains it is Gabriel and within alpha
unfoldable pub is_admitted : List ℕ → ℕ → List ℕ → Bool
is_admitted s alpha p =
    list_any (λ q. list_any (λ face. contains face p && is_small s alpha face) (faces_inside q))
    (full_cells (complex s))

-- a cell is admitted where it is Full and its points are
abbrev pub is_admitted_cell : List ℕ → ℕ → Cell → Bool
is_admitted_cell s alpha (Full q) = is_admitted s alpha q
is_admitted_cell s alpha (Open t) = false

-- the kind of a face by the cells that contain it: interior where all pass the test, regular where some do, else
-- singular
abbrev pub kind_by : (Cell → Bool) → List Cell → Kind
kind_by test cells = if list_all test cells then Interior else (if list_any test cells then Regular else Singular)

-- the kind of an admitted face of the complex
unfoldable pub kind : List ℕ → ℕ → List ℕ → Kind
kind s alpha p = kind_by (is_admitted_cell s alpha) (cells_with p (complex s))
