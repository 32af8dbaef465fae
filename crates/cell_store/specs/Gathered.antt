-- Cells that are gathered bucket by bucket, each from the bucket of its first point.
use Rattle.std.specs.Prelude.{◌≡◌, ℕ, ◌<◌, ◌==◌, Bool, List, Some, IsPermutation}
use Rattle.std.specs.List.{filter}
use Rattle.point_order.specs.declared.cell.Cell.{Cell}
use Rattle.point_order.specs.Facets.{points_of}
use Rattle.point_order.specs.Sets.{IsIn}
use Rattle.cell_store.specs.Buckets.{BucketContent, InHand, bucket_at}
use Rattle.cell_store.specs.Meshes.{HasCellsMore, all_cells}
use Rattle.cell_store.specs.Stars.{bucket_of_first}

-- the bucket of a cell's first point
abbrev pub home_of : ℕ → Cell → ℕ
home_of g c = bucket_of_first g (points_of c)

-- it is bucket b
abbrev pub is_home : ℕ → ℕ → Cell → Bool
is_home g b c = home_of g c == b

-- the new list has behind those of the old one the cells of bucket b whose home it is, in any order
abbrev pub HasHome : ℕ → ℕ → List Cell → List Cell → List Cell → Type 0
HasHome g b cells old new =
    (come : List Cell) × IsPermutation cells come × HasCellsMore (filter (is_home g b) come) old new

-- The cells of a list are gathered from the first n buckets: each stands in one of all, and each that stands in the
-- bucket of its first point, which is one of the first n, is there.
pub record AreGatheredFrom (hold : InHand) (n : ℕ) (list : List Cell) : Type 0 where
  pub each : (c : Cell) → IsIn c list → IsIn c (all_cells hold.places)
  pub all : (c : Cell) (x : BucketContent) → home_of hold.grid c < n →
      bucket_at hold.places (home_of hold.grid c) ≡ Some x → IsIn c x.cells → IsIn c list
