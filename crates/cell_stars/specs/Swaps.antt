-- Exchanges of cells in the buckets of their vertices.
use Rattle.std.specs.Prelude.{◌≡◌, ℕ, Bool, not, ◌==◌, List, [], ◌∷◌, sum, ◌%◌}
use Rattle.std.specs.List.{list_any, filter}
use Rattle.std.specs.Ordering.{is_eq, match_ordering}
use Rattle.std.specs.declared.cmp.Ordering.TheVariants.{Less}
use Rattle.point_order.specs.declared.cell.Cell.{Cell}
use Rattle.point_order.specs.CellOrder.{cell_cmp}
use Rattle.point_order.specs.Facets.{points_of}
use Rattle.point_order.specs.Sets.{IsIn}
use Rattle.bucket_grid.specs.Grids.{bucket_of}

-- one of the finite vertices of the cell lies in the bucket
abbrev pub touches : ℕ → ℕ → Cell → Bool
touches g b c = list_any (λ p. bucket_of g p == b) (points_of c)

-- the rest of a division of the sum of its points
abbrev pub cell_rest : Cell → ℕ
cell_rest c = sum (points_of c) % 509

-- the cell is one of the list
abbrev pub is_cell_among : Cell → List Cell → Bool
is_cell_among c l = list_any (λ d. is_eq (cell_cmp d c)) l

-- the list of cells in order with one more, which stands in it once
abbrev pub with_cell : Cell → List Cell → List Cell
with_cell c [] = c ∷ []
with_cell c (d ∷ l) = match_ordering (cell_cmp c d) (c ∷ d ∷ l) (d ∷ l) (d ∷ with_cell c l)

-- with each cell of a list, which may be in any order
abbrev pub with_all_cells : List Cell → List Cell → List Cell
with_all_cells [] l = l
with_all_cells (c ∷ cs) l = with_all_cells cs (with_cell c l)

-- the cells that are not in a list
abbrev pub without_cells : List Cell → List Cell → List Cell
without_cells gone l = filter (λ c. not (is_cell_among c gone)) l

-- each cell of the list is before c
abbrev pub AreBefore : Cell → List Cell → Type 0
AreBefore c l = (d : Cell) → IsIn d l → cell_cmp d c ≡ Less

-- none is
abbrev pub NoneIsBefore : Cell → List Cell → Type 0
NoneIsBefore c l = (d : Cell) → IsIn d l → cell_cmp d c ≡ Less → ⊥

-- the list without c, where c is its first cell
abbrev pub cells_behind : Cell → List Cell → List Cell
cells_behind c [] = []
cells_behind c (d ∷ l) = match_ordering (cell_cmp d c) (d ∷ l) l (d ∷ l)

-- the cells of bucket b without those of gone, and with those of fresh, that have a finite vertex in it, in order
unfoldable pub swapped : ℕ → ℕ → List Cell → List Cell → List Cell → List Cell
swapped g b gone fresh l = with_all_cells (filter (touches g b) fresh) (without_cells (filter (touches g b) gone) l)

-- no cell stands twice in the list
abbrev pub Differ : List Cell → Type 0
Differ [] = Unit {0}
Differ (c ∷ l) = (IsIn c l → ⊥) × Differ l
