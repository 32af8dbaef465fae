-- Cells of complexes by their numbers in the whole list, as private functions speak of them.
use Rattle.std.specs.Prelude.{◌≡◌, ◌≢◌, ℕ, ◌<◌, List, [], ◌∷◌, length}
use Rattle.point_order.specs.declared.cell.Cell.{Cell}
use Rattle.point_order.specs.declared.cell.Cell.TheVariants.{Full, Open}
use Rattle.point_order.specs.declared.cell.Facet.{Facet}
use Rattle.point_order.specs.Complex.{complex}
use Rattle.point_order.specs.Facets.{facets_of}
use Rattle.point_order.specs.Sets.{IsIn}
use Rattle.hole_laws.specs.Edits.{IsSet}
use Rattle.face_list.specs.Tables.{cell_at}

-- the cell of the number m is another than that of n, and has the facet
abbrev pub IsOther : List Cell → ℕ → Facet → ℕ → Type 0
IsOther cells n f m = (m < length cells) × (m ≢ n) × IsIn f (facets_of (cell_at cells m))

-- some cell is
abbrev pub HasAnotherCell : List Cell → ℕ → Facet → Type 0
HasAnotherCell cells n f = (m : ℕ) × IsOther cells n f m

-- what is told of a cell: its number where it is Full, and 2^32 - 1 where it is Open
abbrev pub told : Cell → ℕ → ℕ
told (Full q) m = m
told (Open t) m = 4294967295

-- the cells are those of the complex of some set
abbrev pub AreOfComplex : List Cell → Type 0
AreOfComplex cells = (s : List ℕ) × IsSet s × (cells ≡ complex s)

-- the triples of four points, of which the first lacks the first point
abbrev pub AreSides : List ℕ → List ℕ → List ℕ → List ℕ → List ℕ → Type 0
AreSides (a ∷ b ∷ c ∷ d ∷ []) t u v w =
    (t ≡ b ∷ c ∷ d ∷ []) × (u ≡ a ∷ c ∷ d ∷ []) × (v ≡ a ∷ b ∷ d ∷ []) × (w ≡ a ∷ b ∷ c ∷ [])
AreSides _ t u v w = ⊥
