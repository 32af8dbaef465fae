-- Where a walk to the nearest point stands, and the first of the points that share a cell with a point.
use Rattle.std.specs.Prelude.{◌≡◌, ℕ, false, List}
use Rattle.point_order.specs.declared.cell.Cell.{Cell}
use Rattle.point_order.specs.Complex.{complex}
use Rattle.point_order.specs.Facets.{points_of}
use Rattle.point_order.specs.Sets.{IsIn}
use Rattle.del_laws.specs.Nearest.{comes_before}

-- What a walk shows: the place that it goes to, and the point where it stands.
pub record Nearing : Type 0 where
  pub place : ℕ
  pub point : ℕ

-- a cell of the complex of s has both points
pub record ShareACell (s : List ℕ) (p x : ℕ) : Type 0 where
  pub cell : Cell
  pub listed : IsIn cell (complex s)
  pub has : IsIn p (points_of cell)
  pub other : IsIn x (points_of cell)

-- x shares a cell with p, as p itself does, and as seen from q none that does comes before x
pub record IsFirstAround (s : List ℕ) (q p x : ℕ) : Type 0 where
  pub beside : ShareACell s p x
  pub first : (y : ℕ) → ShareACell s p y → comes_before q y x ≡ false
