-- What a bucket and a hold show: their lists, without the layout of the code.
use Rattle.std.specs.Prelude.{◌≡◌, ℕ, Bool, true, false, ◌*◌, List, [], Option, None, Some, ◌⊎◌, map, replicate}
use Rattle.std.specs.Prelude.{slice_index_or}
use Rattle.std.specs.Option.{option_map, option_map_or}
use Rattle.point_order.specs.declared.cell.Cell.{Cell}
use Rattle.edit_history.specs.Edits.{point_of}
use Rattle.edit_history.specs.declared.history.Edit.{Edit}
use Rattle.edit_history.specs.declared.history.Entry.{Entry}
use Rattle.cell_stars.specs.Places.{Placed, cells_of}
use Rattle.cell_store.specs.Points.{goal_of, last_of}

-- A bucket: its points, the cells with a vertex in it, and the entries whose point lies in it. Its place is none for a
-- new bucket, else the size of the grid in which it last stood, or from which it was copied, and its number there.
pub record BucketContent : Type 0 where
  pub points : List ℕ
  pub cells : List Cell
  pub entries : List Entry
  pub place : Option (ℕ × ℕ)

-- A bucket as it is kept: its points, its cells at numbered places with their stars, and its entries; and how many
-- points and entries more it takes without memory.
pub record Layout : Type 0 where
  pub points : List ℕ
  pub cells : Placed
  pub entries : List Entry
  pub room_points : ℕ
  pub room_entries : ℕ

-- what a bucket has, as clauses read it
abbrev pub content_of : Layout → BucketContent
content_of c = record { points = c.points; cells = cells_of c.cells.slots; entries = c.entries; place = c.cells.place }

-- what the buckets in hand have
abbrev pub shown : List (Option Layout) → List (Option BucketContent)
shown places = map (option_map content_of) places

-- the bucket with a number as it is kept, if it is in hand
abbrev pub layout_at : List (Option Layout) → ℕ → Option Layout
layout_at places b = slice_index_or places b None

-- The room of a hold: the cells that go and come in the exchange for which there is room, the point of the entry for
-- which there is, a point that can come and go, and whether the exchange can be made back and again any number of
-- times.
pub record Room : Type 0 where
  pub swap : Option (List Cell × List Cell)
  pub push : Option ℕ
  pub point : Option ℕ
  pub back : Bool

-- A hold: the size of its grid, for each number the bucket in hand, if it is, and its room.
pub record InHand : Type 0 where
  pub grid : ℕ
  pub places : List (Option BucketContent)
  pub room : Room

-- no room
abbrev pub no_room : Room
no_room = record { swap = None; push = None; point = None; back = false }

-- room for an exchange and for the entry of an edit, and for the point that comes in a move
abbrev pub room_for : List Cell → List Cell → Edit → Room
room_for gone fresh edit =
    record { swap = Some (gone, fresh); push = Some (point_of edit); point = goal_of edit; back = false }

-- room for an exchange there and back, and for the last point of the edit to come and go
abbrev pub room_both : List Cell → List Cell → Edit → Room
room_both gone fresh edit =
    record { swap = Some (gone, fresh); push = None; point = Some (last_of edit); back = true }

-- the exchange that is next after one: the one back, if it can be made
abbrev pub swap_after : Bool → List Cell → List Cell → Option (List Cell × List Cell)
swap_after false gone fresh = None
swap_after true gone fresh = Some (fresh, gone)

-- the hold with no bucket in hand
abbrev pub empty_hold : ℕ → InHand
empty_hold g = record { grid = g; places = replicate (g * g * g) None; room = no_room }

-- the bucket with a number, if it is in hand
abbrev pub bucket_at : List (Option BucketContent) → ℕ → Option BucketContent
bucket_at places b = slice_index_or places b None

-- the points of the bucket with a number, none where it is not in hand
abbrev pub points_at : List (Option BucketContent) → ℕ → List ℕ
points_at places b = option_map_or (λ c. c.points) (bucket_at places b) []

-- and its cells
abbrev pub cells_in : List (Option BucketContent) → ℕ → List Cell
cells_in places b = option_map_or (λ c. c.cells) (bucket_at places b) []

-- the bucket, standing in a grid at a number
abbrev pub at_place : ℕ → ℕ → BucketContent → BucketContent
at_place g b c = record c { place = Some (g, b) }

-- the bucket is new, or last stood in this grid at this number
abbrev pub FitsPlace : ℕ → ℕ → BucketContent → Type 0
FitsPlace g b c = (c.place ≡ None) ⊎ (c.place ≡ Some (g, b))

-- every bucket in hand stands in the grid at its number
abbrev pub StandAtPlaces : ℕ → List (Option BucketContent) → Type 0
StandAtPlaces g places = (b : ℕ) (c : BucketContent) → bucket_at places b ≡ Some c → c.place ≡ Some (g, b)
