-- The vertices of cells and facets; the cells of a list as a test of four vertices.
use Rattle.std.specs.Prelude.{◌≡◌, ◌<◌, Bool, true, false, ◌&&◌, List, [], ◌∷◌}
use Rattle.std.specs.List.{list_any}
use Rattle.point_order.specs.Sets.{IsIn, is_among}
use Rattle.point_order.specs.declared.cell.Cell.{Cell}
use Rattle.point_order.specs.declared.cell.Cell.TheVariants.{Full, Open}
use Rattle.point_order.specs.declared.cell.Facet.{Facet}
use Rattle.point_order.specs.declared.cell.Facet.TheVariants.{Three, Two}
use Rattle.del_laws.specs.Cells.{Vertex, point, far}

-- the vertex is one of the cell: one of its points, or the infinite one of an Open cell
abbrev pub has_vertex : Cell → Vertex → Bool
has_vertex (Full q) (point a) = is_among a q
has_vertex (Full q) far = false
has_vertex (Open t) (point a) = is_among a t
has_vertex (Open t) far = true

-- all four are
abbrev pub has_vertices : Cell → Vertex → Vertex → Vertex → Vertex → Bool
has_vertices q w x y z = has_vertex q w && has_vertex q x && has_vertex q y && has_vertex q z

-- some cell of the list has all four
unfoldable pub is_listed : List Cell → Vertex → Vertex → Vertex → Vertex → Bool
is_listed l w x y z = list_any (λ q. has_vertices q w x y z) l

-- four points, or three, in ascending order
abbrev pub IsOrdered : Cell → Type 0
IsOrdered (Full (a ∷ b ∷ c ∷ d ∷ [])) = (a < b) × (b < c) × (c < d)
IsOrdered (Open (a ∷ b ∷ c ∷ [])) = (a < b) × (b < c)
IsOrdered _ = ⊥

-- the test at the vertices of the cell
abbrev pub at_cell : (Vertex → Vertex → Vertex → Vertex → Bool) → Cell → Bool
at_cell c (Full (a ∷ b ∷ c' ∷ d ∷ [])) = c (point a) (point b) (point c') (point d)
at_cell c (Open (a ∷ b ∷ c' ∷ [])) = c (point a) (point b) (point c') far
at_cell c _ = false

-- a cell of the list that has all four
pub record HasListed (l : List Cell) (w x y z : Vertex) : Type 0 where
  pub q : Cell
  pub listed : IsIn q l
  pub vertices : has_vertices q w x y z ≡ true

-- the list has the cells of the test, and no others, each with its points in order
pub record ListsCells (l : List Cell) (c : Vertex → Vertex → Vertex → Vertex → Bool) : Type 0 where
  pub found : (w x y z : Vertex) → c w x y z ≡ true → HasListed l w x y z
  pub ordered : (q : Cell) → IsIn q l → IsOrdered q
  pub cell : (q : Cell) → IsIn q l → at_cell c q ≡ true

-- the vertex is one of the facet: one of its points, or the infinite one of a pair
abbrev pub IsFacetVertex : Facet → Vertex → Type 0
IsFacetVertex (Three t) (point a) = IsIn a t
IsFacetVertex (Three t) far = ⊥
IsFacetVertex (Two t) (point a) = IsIn a t
IsFacetVertex (Two t) far = Unit {0}
