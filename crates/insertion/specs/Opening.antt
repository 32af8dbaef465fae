-- The hold of four points, with which a mesh begins: bare, and with their cells.
use Rattle.std.specs.Prelude.{◌≡◌, ℕ, ◌*◌, ◌<◌, List, [], ◌∷◌, length, None, Some}
use Rattle.point_order.specs.Sets.{ascending}
use Rattle.hole_laws.specs.FiveCells.{five_cells}
use Rattle.cell_store.specs.Changes.{IsSwapped}
use Rattle.cell_store.specs.Buckets.{BucketContent, InHand, bucket_at, at_place}

-- a bucket with nothing in it
abbrev pub bare_bucket : BucketContent
bare_bucket = record { points = []; cells = []; entries = []; place = None }

-- every bucket of the grid is in hand, with nothing in it
pub record IsBare (g : ℕ) (hold : InHand) : Type 0 where
  pub grid : hold.grid ≡ g
  pub count : length hold.places ≡ g * g * g
  pub bare : (b : ℕ) → b < length hold.places → bucket_at hold.places b ≡ Some (at_place g b bare_bucket)

-- the new hold has the five cells of the points besides, which are four
pub record HasCellsOfFour (points : List ℕ) (old new : InHand) : Type 0 where
  pub a : ℕ
  pub b : ℕ
  pub c : ℕ
  pub d : ℕ
  pub sorted : ascending points ≡ a ∷ b ∷ c ∷ d ∷ []
  pub swapped : IsSwapped [] (five_cells a b c d) old new
