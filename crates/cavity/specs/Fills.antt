-- The cells that a new point takes away, and those that it brings.
use Rattle.std.specs.Prelude.{ℕ, List, IsSome}
use Rattle.list_laws.specs.Lists.{AreDistinct}
use Rattle.point_order.specs.declared.cell.Cell.{Cell}
use Rattle.point_order.specs.Complex.{complex}
use Rattle.point_order.specs.Sets.{with_point}
use Rattle.hole_laws.specs.Edits.{IsSolidSet, IsNew}
use Rattle.bucket_grid.specs.Grids.{bucket_of}
use Rattle.cell_store.specs.Buckets.{InHand, bucket_at}
use Rattle.cell_changes.specs.Changes.{IsChange}
use Rattle.cell_store.specs.Ready.{AreHeld}

-- Gone are exactly the cells of the complex of s that are none of that of s with p, and fresh are exactly the cells of
-- the complex of s with p that are none of that of s, each once.
pub record IsFilled (s : List ℕ) (p : ℕ) (gone fresh : List Cell) : Type 0 where
  pub change : IsChange (complex s) (complex (with_point p s)) gone fresh
  pub gone_once : AreDistinct gone
  pub fresh_once : AreDistinct fresh

-- where the buckets of the gone cells and of p are in hand, those of the fresh cells are
abbrev pub FreshAreHeld : Type 0
FreshAreHeld =
    (s : List ℕ) (p : ℕ) (gone fresh : List Cell) (hold : InHand) → IsSolidSet s → IsNew s p → IsFilled s p gone fresh →
    AreHeld hold gone → IsSome (bucket_at hold.places (bucket_of hold.grid p)) → AreHeld hold fresh
