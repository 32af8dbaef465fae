-- The order of cells: Full ones before Open ones, each kind in lexicographic order.
use Rattle.std.specs.Prelude.{List}
use Rattle.std.specs.Cmp.Lexicographic.{slice_cmp}
use Rattle.std.specs.Ordering.{nat_cmp}
use Rattle.std.specs.declared.cmp.Ordering.{Ordering}
use Rattle.std.specs.declared.cmp.Ordering.TheVariants.{Less, Greater}
use Rattle.list_laws.specs.Lists.{IsIn}
use Rattle.point_order.specs.declared.cell.Cell.{Cell}
use Rattle.point_order.specs.declared.cell.Cell.TheVariants.{Full, Open}

abbrev pub cell_cmp : Cell → Cell → Ordering
cell_cmp (Full p) (Full q) = slice_cmp nat_cmp p q
cell_cmp (Full p) (Open q) = Less
cell_cmp (Open p) (Full q) = Greater
cell_cmp (Open p) (Open q) = slice_cmp nat_cmp p q

-- the two lists have the same cells
abbrev pub AreSameCells : List Cell → List Cell → Type 0
AreSameCells l m = ((c : Cell) → IsIn c l → IsIn c m) × ((c : Cell) → IsIn c m → IsIn c l)
