-- Which of two points of a set comes first as seen from a place, and that the cells at a point show whether it is the
-- first of all.
use Rattle.std.specs.Prelude.{◌≡◌, ℕ, Bool, true, not, ◌&&◌, ◌||◌, nat_lt, List}
use Rattle.std.specs.Int.Signed.{lt_z}
use Rattle.point_order.specs.declared.cell.Cell.{Cell}
use Rattle.point_order.specs.Orientation.{distance}
use Rattle.point_order.specs.Sets.{IsIn, IsAscending}
use Rattle.point_order.specs.Complex.{complex}
use Rattle.point_order.specs.Facets.{points_of}
use Rattle.point_order.specs.Solid.{is_solid}
use Rattle.del_laws.specs.Keys.{AreKeys}

-- as seen from q, a comes before b: it is nearer, or as near with the lesser key
abbrev pub comes_before : ℕ → ℕ → ℕ → Bool
comes_before q a b =
    lt_z (distance q a) (distance q b) || (not (lt_z (distance q b) (distance q a)) && nat_lt a b)

-- a point of a listed cell of p that comes before p
pub record HasNearer (s : List ℕ) (q p : ℕ) : Type 0 where
  pub cell : Cell
  pub listed : IsIn cell (complex s)
  pub has : IsIn p (points_of cell)
  pub other : ℕ
  pub shares : IsIn other (points_of cell)
  pub nearer : comes_before q other p ≡ true

-- Where some point of the set comes before p, a point that shares a cell with p does. So p is the nearest point of the
-- set, among those as near the one with the least key, exactly where no point that shares a cell with it comes before
-- it.
abbrev pub NearestByCells : Type 0
NearestByCells =
    (s : List ℕ) (q p z : ℕ) → IsAscending s → AreKeys s → is_solid s ≡ true → IsIn p s → IsIn z s →
    comes_before q z p ≡ true → HasNearer s q p
