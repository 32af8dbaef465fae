-- The complex of four independent points.
use Rattle.std.specs.Prelude.{◌≡◌, ℕ, true, List, [], ◌∷◌, ◌↔◌}
use Rattle.point_order.specs.declared.cell.Cell.{Cell}
use Rattle.point_order.specs.declared.cell.Cell.TheVariants.{Full, Open}
use Rattle.point_order.specs.Complex.{complex}
use Rattle.point_order.specs.Sets.{IsIn, IsAscending}
use Rattle.point_order.specs.Solid.{is_solid}
use Rattle.del_laws.specs.Keys.{AreKeys}

-- the Full cell of four ascending points, and the Open cell on each of its facets
abbrev pub five_cells : ℕ → ℕ → ℕ → ℕ → List Cell
five_cells a b c d =
    Full (a ∷ b ∷ c ∷ d ∷ [])
    ∷ Open (a ∷ b ∷ c ∷ []) ∷ Open (a ∷ b ∷ d ∷ []) ∷ Open (a ∷ c ∷ d ∷ []) ∷ Open (b ∷ c ∷ d ∷ []) ∷ []

-- The complex of four independent points has exactly these five cells.
abbrev pub FourHaveFive : Type 0
FourHaveFive =
    (a b c d : ℕ) → IsAscending (a ∷ b ∷ c ∷ d ∷ []) → AreKeys (a ∷ b ∷ c ∷ d ∷ []) →
    is_solid (a ∷ b ∷ c ∷ d ∷ []) ≡ true →
    (q : Cell) → IsIn q (complex (a ∷ b ∷ c ∷ d ∷ [])) ↔ IsIn q (five_cells a b c d)
