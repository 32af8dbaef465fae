-- Which cells stay when a point is added, by the tests of conflict; and how near a cell is to a point.
use Rattle.std.specs.Prelude.{◌≡◌, ℕ, true, false, not, List, [], ◌∷◌}
use Rattle.point_order.specs.declared.cell.Cell.TheVariants.{Full, Open}
use Rattle.point_order.specs.Coordinates.{IsKey}
use Rattle.point_order.specs.Orientation.{is_flat}
use Rattle.point_order.specs.Sets.{IsIn, with_point}
use Rattle.point_order.specs.Conflicts.{is_in_conflict}
use Rattle.del_laws.specs.Keys.{AreKeys}
use Rattle.del_laws.specs.Vertices.{is_full_cell, is_open_cell}

-- a Full cell is one of the set with a point exactly where it is not in conflict with the point
abbrev pub FullIsKept : Type 0
FullIsKept =
    (s : List ℕ) (a b c d m p : ℕ) → AreKeys s → IsKey p → ¬ (IsIn p s) →
    is_full_cell s a b c d ≡ true →
    is_full_cell (with_point p s) a b c d ≡ not (is_in_conflict (Full (a ∷ b ∷ c ∷ d ∷ [])) m p)

-- an Open cell too, with any point of the set off its plane as its mate
abbrev pub OpenIsKept : Type 0
OpenIsKept =
    (s : List ℕ) (a b c m p : ℕ) → AreKeys s → IsKey p → ¬ (IsIn p s) →
    is_open_cell s a b c ≡ true → IsIn m s → is_flat a b c m ≡ false →
    is_open_cell (with_point p s) a b c ≡ not (is_in_conflict (Open (a ∷ b ∷ c ∷ [])) m p)
