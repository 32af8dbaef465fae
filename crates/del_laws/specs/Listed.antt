-- The complex of a set as its sorted list of cells: what is listed, in which order, and the facets of listed cells.
-- The set is an ascending list of keys.
use Rattle.std.specs.Prelude.{◌≡◌, ℕ, Bool, ◌<◌, true, List, [], ◌∷◌, ◌⊎◌}
use Rattle.std.specs.List.Sorted.{IsStrictlySortedBy}
use Rattle.point_order.specs.declared.cell.Cell.{Cell}
use Rattle.point_order.specs.declared.cell.Cell.TheVariants.{Full, Open}
use Rattle.point_order.specs.declared.cell.Facet.{Facet}
use Rattle.point_order.specs.Sets.{IsIn, IsAscending, ascending}
use Rattle.point_order.specs.CellOrder.{cell_cmp}
use Rattle.point_order.specs.Complex.{complex, is_full, is_open}
use Rattle.point_order.specs.Facets.{facets_of, points_of}
use Rattle.del_laws.specs.Cells.{Vertex, point, far}
use Rattle.del_laws.specs.Keys.{AreKeys}
use Rattle.del_laws.specs.Vertices.{is_cell}

-- ---- members

-- a listed Full cell: four points, ascending, that are a cell
pub record IsListedFull (s : List ℕ) (q : List ℕ) : Type 0 where
  pub a : ℕ
  pub b : ℕ
  pub c : ℕ
  pub d : ℕ
  pub is : q ≡ a ∷ b ∷ c ∷ d ∷ []
  pub first : a < b
  pub second : b < c
  pub third : c < d
  pub test : is_cell s (point a) (point b) (point c) (point d) ≡ true

-- a listed Open cell: three points, ascending, that are a cell with the infinite vertex
pub record IsListedOpen (s : List ℕ) (t : List ℕ) : Type 0 where
  pub a : ℕ
  pub b : ℕ
  pub c : ℕ
  pub is : t ≡ a ∷ b ∷ c ∷ []
  pub first : a < b
  pub second : b < c
  pub test : is_cell s (point a) (point b) (point c) far ≡ true

-- a listed cell is one of the two
abbrev pub IsListed : List ℕ → Cell → Type 0
IsListed s (Full q) = IsListedFull s q
IsListed s (Open t) = IsListedOpen s t

-- whether the points of a cell pass the definition of its kind
abbrev pub passes_definition : List ℕ → Cell → Bool
passes_definition s (Full q) = is_full s q
passes_definition s (Open t) = is_open s t

-- points of the set, ascending, that pass the definition are a cell; the set need not be known to be solid
abbrev pub DefinitionIsCell : Type 0
DefinitionIsCell =
    (s : List ℕ) (c : Cell) → IsAscending (points_of c) → ((p : ℕ) → IsIn p (points_of c) → IsIn p s) →
    passes_definition s c ≡ true → IsListed s c

-- what is listed in the complex is a cell of it
abbrev pub ListedIsCell : Type 0
ListedIsCell = (s : List ℕ) (c : Cell) → IsAscending s → IsIn c (complex s) → IsListed s c

-- and each cell is listed
abbrev pub CellIsListed : Type 0
CellIsListed = (s : List ℕ) (c : Cell) → IsAscending s → IsListed s c → IsIn c (complex s)

-- ---- order

-- the list of a complex is in the order of cells, each cell once
abbrev pub ComplexIsSorted : Type 0
ComplexIsSorted = (s : List ℕ) → IsAscending s → IsStrictlySortedBy cell_cmp (complex s)

-- lists of cells in order that have the same members are one
abbrev pub SameCells : Type 0
SameCells =
    (l m : List Cell) → IsStrictlySortedBy cell_cmp l → IsStrictlySortedBy cell_cmp m →
    ((c : Cell) → IsIn c l → IsIn c m) → ((c : Cell) → IsIn c m → IsIn c l) → l ≡ m

-- ---- facets

-- the cell of four vertices, its points in order
abbrev pub cell_of : Vertex → Vertex → Vertex → Vertex → Cell
cell_of (point a) (point b) (point c) (point d) = Full (ascending (a ∷ b ∷ c ∷ d ∷ []))
cell_of (point a) (point b) (point c) far = Open (ascending (a ∷ b ∷ c ∷ []))
cell_of (point a) (point b) far (point c) = Open (ascending (a ∷ b ∷ c ∷ []))
cell_of (point a) far (point b) (point c) = Open (ascending (a ∷ b ∷ c ∷ []))
cell_of far (point a) (point b) (point c) = Open (ascending (a ∷ b ∷ c ∷ []))
cell_of _ _ _ _ = Open []

-- four vertices that are a cell, and it is listed
abbrev pub TestIsListed : Type 0
TestIsListed = (s : List ℕ) → IsAscending s → AreKeys s → (w x y z : Vertex) → is_cell s w x y z ≡ true →
    IsIn (cell_of w x y z) (complex s)

-- across a facet of a listed cell: another listed cell that has the facet, and no third has it
pub record HasOtherCell (s : List ℕ) (c : Cell) (f : Facet) : Type 0 where
  pub other : Cell
  pub differs : ¬ (other ≡ c)
  pub listed : IsIn other (complex s)
  pub has : IsIn f (facets_of other)
  pub only : (e : Cell) → IsIn e (complex s) → IsIn f (facets_of e) → (e ≡ c) ⊎ (e ≡ other)

-- every facet of every listed cell lies in exactly two listed cells
abbrev pub ListedFacets : Type 0
ListedFacets =
    (s : List ℕ) (c : Cell) (f : Facet) → IsAscending s → AreKeys s → IsIn c (complex s) → IsIn f (facets_of c) →
    HasOtherCell s c f
