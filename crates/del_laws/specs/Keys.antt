-- Sets of points with whole coordinates, each by its key.
use Rattle.std.specs.Prelude.{ℕ, List}
use Rattle.point_order.specs.Coordinates.{IsKey}
use Rattle.point_order.specs.Sets.{IsIn}

-- Every number of the list is the key of a point. Without that two numbers could lie in one place.
pub record AreKeys (s : List ℕ) : Type 0 where
  pub below : (p : ℕ) → IsIn p s → IsKey p
