-- Which cells of two lists are known to be those of a complex.
use Rattle.std.specs.Prelude.{◌≡◌, ℕ, Bool, true, false, List, [], ◌++◌, map, slice_index_or}
use Rattle.point_order.specs.declared.cell.Cell.{Cell}
use Rattle.point_order.specs.declared.cell.Cell.TheVariants.{Full, Open}
use Rattle.point_order.specs.Complex.{complex}
use Rattle.point_order.specs.Sets.{IsAscending, IsIn}
use Rattle.point_order.specs.Solid.{is_solid}
use Rattle.cell_slots.specs.Clouds.{AreCellsOf}
use Rattle.cloud_cells.specs.declared.known.Compared.{Compared}
use Rattle.cloud_cells.specs.declared.known.Compared.TheVariants.{Same, Other}

-- the cells are those of the complex of s, which is ascending and solid
pub record IsMadeOf (s : List ℕ) (made : List Cell) : Type 0 where
  pub ascending : IsAscending s
  pub solid : is_solid s ≡ true
  pub cells : AreCellsOf s made

-- each cell of the list that is marked is one of these
abbrev pub AreMarkedAmong : List Cell → (List ℕ → Cell) → List (List ℕ) → List Bool → Type 0
AreMarkedAmong made kind l marks = (i : ℕ) → slice_index_or marks i false ≡ true
    → IsIn (kind (slice_index_or l i [])) made

-- the lists are the complex of s, or each cell that is marked is one of it
abbrev pub IsCompared : List ℕ → List (List ℕ) → List (List ℕ) → Compared → Type 0
IsCompared s cells hull Same = map Full cells ++ map Open hull ≡ complex s
IsCompared s cells hull (Other known) =
    AreMarkedAmong (complex s) Full cells known.cells.items × AreMarkedAmong (complex s) Open hull known.hull.items
