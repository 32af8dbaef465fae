-- The faces of a list of cells: the points, pairs and triples inside its Full cells, and the Full cells.
use Rattle.std.specs.Prelude.{ℕ, List, [], ◌∷◌, map}
use Rattle.std.specs.List.{filter, flat_map, fold, list_all}
use Rattle.std.specs.Ordering.{nat_cmp}
use Rattle.std.specs.Cmp.Lexicographic.{slice_cmp}
use Rattle.std.specs.declared.cmp.Ordering.{Ordering}
use Rattle.std.specs.BTreeSet.{insert_key}
use Rattle.point_order.specs.declared.cell.Cell.{Cell}
use Rattle.point_order.specs.declared.cell.Cell.TheVariants.{Full, Open}
use Rattle.point_order.specs.Facets.{points_of}
use Rattle.point_order.specs.Sets.{is_among}
use Rattle.point_order.specs.Subsets.{subsets}

-- the Full cells of a list, as their points, in its order
abbrev pub full_cells : List Cell → List (List ℕ)
full_cells [] = []
full_cells (Full q ∷ cells) = q ∷ full_cells cells
full_cells (Open t ∷ cells) = full_cells cells

-- the elements of a list in an order, each once
abbrev pub each_once : {X : Type 0} → (X → X → Ordering) → List X → List X
each_once cmp xs = fold (insert_key cmp) [] xs

-- the points of the Full cells, ascending, each once
abbrev pub points_in : List Cell → List ℕ
points_in cells = each_once nat_cmp (flat_map (λ q. q) (full_cells cells))

-- the parts of the Full cells that have k points, in lexicographic order, each once: pairs and triples
abbrev pub parts_in : ℕ → List Cell → List (List ℕ)
parts_in k cells = each_once (slice_cmp nat_cmp) (flat_map (subsets k) (full_cells cells))

-- the cells that have all of some points, Open ones too, in the order of the list
abbrev pub cells_with : List ℕ → List Cell → List Cell
cells_with ps cells = filter (λ c. list_all (λ p. is_among p (points_of c)) ps) cells

-- faces, each with the cells that have its points
abbrev pub with_cells_around : List (List ℕ) → List Cell → List (List ℕ × List Cell)
with_cells_around faces cells = map (λ p. (p, cells_with p cells)) faces

-- points, each with the cells that have it
abbrev pub points_with_cells : List ℕ → List Cell → List (ℕ × List Cell)
points_with_cells points cells = map (λ p. (p, cells_with (p ∷ []) cells)) points
