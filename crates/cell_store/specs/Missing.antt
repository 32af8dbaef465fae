-- Buckets that are missing: those of points and cells that are not in hand.
use Rattle.std.specs.Prelude.{◌≡◌, ℕ, ◌<◌, length, List, None, IsSome}
use Rattle.point_order.specs.declared.cell.Cell.{Cell}
use Rattle.point_order.specs.Facets.{points_of}
use Rattle.point_order.specs.Sets.{IsIn}
use Rattle.bucket_grid.specs.Grids.{bucket_of}
use Rattle.cell_store.specs.Buckets.{InHand, bucket_at}

-- the buckets of all points of the list are in hand
abbrev pub ArePointsHeld : InHand → List ℕ → Type 0
ArePointsHeld hold ps = (p : ℕ) → IsIn p ps → IsSome (bucket_at hold.places (bucket_of hold.grid p))

-- bucket b is that of a point of the list, and is not in hand
pub record IsBucketMissing (hold : InHand) (ps : List ℕ) (b : ℕ) : Type 0 where
  pub point : ℕ
  pub among : IsIn point ps
  pub number : b ≡ bucket_of hold.grid point
  pub below : b < length hold.places
  pub absent : bucket_at hold.places b ≡ None

-- bucket b is that of a finite point of one of the cells, and is not in hand
pub record IsCellMissing (hold : InHand) (cells : List Cell) (b : ℕ) : Type 0 where
  pub cell : Cell
  pub among : IsIn cell cells
  pub missing : IsBucketMissing hold (points_of cell) b
