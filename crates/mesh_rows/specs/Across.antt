-- What lies across the facets of the Full cells of a list. They are numbered from 0, in its order.
use Rattle.std.specs.Prelude.{◌≡◌, ◌≢◌, ℕ, ◌<◌, ◌⊎◌, List, [], ◌∷◌, length, slice_index_or}
use Rattle.point_order.specs.declared.cell.Cell.{Cell}
use Rattle.point_order.specs.declared.cell.Facet.TheVariants.{Three}
use Rattle.point_order.specs.Facets.{full_facets}
use Rattle.point_order.specs.Sets.{IsIn}
use Rattle.face_list.specs.Faces.{full_cells}
use Rattle.mesh_rows.specs.declared.rows.CellRow.{CellRow}
use Rattle.mesh_rows.specs.Rows.{open_cells}

-- the points of the Full cell of a number
abbrev pub full_at : List Cell → ℕ → List ℕ
full_at cells n = slice_index_or (full_cells cells) n []

-- the Full cell of the number m is another than that of n, and has the triple for a facet
pub record IsFullNeighbour (cells : List Cell) (n : ℕ) (t : List ℕ) (m : ℕ) : Type 0 where
  pub listed : m < length (full_cells cells)
  pub differs : m ≢ n
  pub has : IsIn (Three t) (full_facets (full_at cells m))

-- What is told of a facet of the Full cell of the number n: the number of the other Full cell that has it, or 2^32 - 1
-- where it is a triangle of the hull.
abbrev pub IsToldAcross : List Cell → ℕ → List ℕ → ℕ → Type 0
IsToldAcross cells n t told = IsFullNeighbour cells n t told ⊎ ((told ≡ 4294967295) × IsIn t (open_cells cells))

-- of its four facets, of which the first lacks its first point
abbrev pub AreAcross : List Cell → ℕ → List ℕ → CellRow → Type 0
AreAcross cells n (a ∷ b ∷ c ∷ d ∷ []) row =
    IsToldAcross cells n (b ∷ c ∷ d ∷ []) row.a × IsToldAcross cells n (a ∷ c ∷ d ∷ []) row.b
    × IsToldAcross cells n (a ∷ b ∷ d ∷ []) row.c × IsToldAcross cells n (a ∷ b ∷ c ∷ []) row.d
AreAcross cells n _ row = ⊥

-- a row for each Full cell
pub record AreNeighbours (cells : List Cell) (rows : List CellRow) : Type 0 where
  pub count : length rows ≡ length (full_cells cells)
  pub across : (n : ℕ) (d : CellRow) → n < length rows → AreAcross cells n (full_at cells n) (slice_index_or rows n d)
