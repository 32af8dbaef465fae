-- Cells and facets in the keys of their points, and cells packed in three words.
use Rattle.std.specs.Prelude.{ℕ, ◌+◌, ◌*◌, ◌/◌, ◌%◌, ◌<◌, ◌≤◌, ◌==◌, nat_lt, List, [], ◌∷◌, if◌then◌else◌, Option, None}
use Rattle.std.specs.Prelude.{Some, slice_index_or}
pub use Rattle.point_order.specs.Facets.{points_of, points_on}
use Rattle.point_order.specs.declared.cell.Cell.{Cell}
use Rattle.point_order.specs.declared.cell.Cell.TheVariants.{Full, Open}
use Rattle.point_order.specs.declared.cell.Facet.{Facet}
use Rattle.point_order.specs.declared.cell.Facet.TheVariants.{Three, Two}

-- in place of a key, for the infinite vertex: 2^42
abbrev pub infinite : ℕ
infinite = 4398046511104

-- the cell: it is Open where the last vertex is the infinite one
abbrev pub cell_of : ℕ → ℕ → ℕ → ℕ → Cell
cell_of a b c d = if d == infinite then Open (a ∷ b ∷ c ∷ []) else Full (a ∷ b ∷ c ∷ d ∷ [])

-- so the facet
abbrev pub facet_of : ℕ → ℕ → ℕ → Facet
facet_of x y z = if z == infinite then Two (x ∷ y ∷ []) else Three (x ∷ y ∷ z ∷ [])

-- three ascend, and the last is a key or the infinite vertex
pub record AreFaceKeys (x y z : ℕ) : Type 0 where
  pub first : x < y
  pub second : y < z
  pub last : z ≤ infinite

-- and four
pub record AreCellKeys (a b c d : ℕ) : Type 0 where
  pub first : a < b
  pub second : b < c
  pub third : c < d
  pub last : d ≤ infinite

-- the point at a place, or the infinite vertex
abbrev pub key_of : List ℕ → ℕ → ℕ
key_of points k = slice_index_or points k infinite

-- what stands above the first and the second key, the fourth
abbrev pub fourth : ℕ → ℕ → ℕ
fourth u v = u / infinite + v / infinite * 4194304

-- the cell in three words: there is none where the third is no key
abbrev pub cell_in : ℕ → ℕ → ℕ → Option Cell
cell_in u v w = if nat_lt w infinite then Some (cell_of (u % infinite) (v % infinite) w (fourth u v)) else None

-- and where there is one, the four ascend
abbrev pub ArePacked : ℕ → ℕ → ℕ → Type 0
ArePacked u v w = w < infinite → AreCellKeys (u % infinite) (v % infinite) w (fourth u v)
