-- Cells by the numbers of their points.
use Rattle.std.specs.Prelude.{◌≡◌, ℕ, ◌<◌, List, [], ◌∷◌, ◌++◌, length, slice_index_or}
use Rattle.list_laws.specs.Lists.{IsIn}
use Rattle.cell_lists.specs.declared.known.Row.{Row}

-- the point with a number
abbrev pub known_at : List ℕ → ℕ → ℕ
known_at points i = slice_index_or points i 0

-- the point has the number
pub record HasNumber (points : List ℕ) (i p : ℕ) : Type 0 where
  pub within : i < length points
  pub is : known_at points i ≡ p

-- the points of a row
abbrev pub corners_of : List ℕ → Row → List ℕ
corners_of points r = known_at points r.a ∷ known_at points r.b ∷ known_at points r.c ∷ known_at points r.d ∷ []

-- the numbers of a row are those of points in ascending order
pub record IsRow (points : List ℕ) (r : Row) : Type 0 where
  pub a : r.a < length points
  pub b : r.b < length points
  pub c : r.c < length points
  pub d : r.d < length points
  pub first : known_at points r.a < known_at points r.b
  pub second : known_at points r.b < known_at points r.c
  pub third : known_at points r.c < known_at points r.d

-- so it is with each
abbrev pub AreRows : List ℕ → List Row → Type 0
AreRows points rows = (r : Row) → IsIn r rows → IsRow points r

-- some points were put behind others
abbrev pub AreMore : List ℕ → List ℕ → Type 0
AreMore before after = (more : List ℕ) × (after ≡ before ++ more)
