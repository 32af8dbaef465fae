-- What the definitions of the lists of faces come to.
use Rattle.std.specs.Prelude.{◌≡◌, ℕ, true, List}
use Rattle.std.specs.List.Sorted.{IsStrictlySortedBy}
use Rattle.std.specs.Ordering.{nat_cmp}
use Rattle.std.specs.Cmp.Lexicographic.{slice_cmp}
use Rattle.point_order.specs.declared.cell.Cell.{Cell}
use Rattle.point_order.specs.declared.cell.Cell.TheVariants.{Full}
use Rattle.point_order.specs.Sets.{IsIn, IsAscending}
use Rattle.point_order.specs.Solid.{is_solid}
use Rattle.point_order.specs.CellOrder.{cell_cmp}
use Rattle.point_order.specs.Complex.{complex}
use Rattle.del_laws.specs.Keys.{AreKeys}
use Rattle.point_order.specs.Subsets.{subsets}
use Rattle.face_list.specs.Faces.{full_cells, points_in, parts_in}

-- a Full cell of the list that has the point
pub record HasPoint (cells : List Cell) (p : ℕ) : Type 0 where
  pub q : List ℕ
  pub listed : IsIn (Full q) cells
  pub has : IsIn p q

-- a Full cell of the list with a part of k points
pub record HasPart (k : ℕ) (cells : List Cell) (p : List ℕ) : Type 0 where
  pub q : List ℕ
  pub listed : IsIn (Full q) cells
  pub part : IsIn p (subsets k q)

-- the points ascend, none twice
abbrev pub PointsInOrder : Type 0
PointsInOrder = (cells : List Cell) → IsStrictlySortedBy nat_cmp (points_in cells)

-- a point is listed where a Full cell has it
abbrev pub PointIsListed : Type 0
PointIsListed = (cells : List Cell) (p : ℕ) → HasPoint cells p → IsIn p (points_in cells)

-- and only there
abbrev pub ListedIsPoint : Type 0
ListedIsPoint = (cells : List Cell) (p : ℕ) → IsIn p (points_in cells) → HasPoint cells p

-- pairs and triples are in lexicographic order, none twice
abbrev pub PartsInOrder : Type 0
PartsInOrder = (k : ℕ) (cells : List Cell) → IsStrictlySortedBy (slice_cmp nat_cmp) (parts_in k cells)

-- a pair or triple is listed where it is a part of a Full cell
abbrev pub PartIsListed : Type 0
PartIsListed = (k : ℕ) (cells : List Cell) (p : List ℕ) → HasPart k cells p → IsIn p (parts_in k cells)

-- and only there
abbrev pub ListedIsPart : Type 0
ListedIsPart = (k : ℕ) (cells : List Cell) (p : List ℕ) → IsIn p (parts_in k cells) → HasPart k cells p

-- of cells in the order of cells the Full ones are in lexicographic order, none twice
abbrev pub FullCellsInOrder : Type 0
FullCellsInOrder =
    (cells : List Cell) → IsStrictlySortedBy cell_cmp cells → IsStrictlySortedBy (slice_cmp nat_cmp) (full_cells cells)

-- a Full cell of the list is among them
abbrev pub FullCellIsListed : Type 0
FullCellIsListed = (cells : List Cell) (q : List ℕ) → IsIn (Full q) cells → IsIn q (full_cells cells)

-- and nothing else is
abbrev pub ListedIsFullCell : Type 0
ListedIsFullCell = (cells : List Cell) (q : List ℕ) → IsIn q (full_cells cells) → IsIn (Full q) cells

-- the Full cells of a complex are in lexicographic order, none twice
abbrev pub FullCellsOfComplex : Type 0
FullCellsOfComplex = (s : List ℕ) → IsAscending s → IsStrictlySortedBy (slice_cmp nat_cmp) (full_cells (complex s))

-- the points of the complex of a solid set are those of the set
abbrev pub PointsOfComplex : Type 0
PointsOfComplex = (s : List ℕ) → IsAscending s → AreKeys s → is_solid s ≡ true → points_in (complex s) ≡ s
