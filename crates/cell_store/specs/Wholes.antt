-- What the buckets of a grid get of a history at once, from which a mesh is made.
use Rattle.std.specs.Prelude.{◌≡◌, ◌≢◌, ℕ, ◌*◌, ◌<◌, ◌≤◌, Bool, true, false, List, [], ◌∷◌, ◌++◌, length, map, Some}
use Rattle.std.specs.Prelude.{None, IsSome, ◌==◌, slice_get, slice_index_or}
use Rattle.std.specs.List.{filter}
use Rattle.point_order.specs.declared.cell.Cell.{Cell}
use Rattle.edit_history.specs.declared.history.Entry.{Entry}
use Rattle.edit_history.specs.Edits.{point_of}
use Rattle.bucket_grid.specs.Grids.{bucket_of}
use Rattle.cell_store.specs.Swaps.{touches}
use Rattle.cell_store.specs.Buckets.{InHand, bucket_at}
use Rattle.cell_store.specs.Shares.{Stands, points_share, cells_share, entries_share}
use Rattle.cell_store.specs.declared.whole.Parts.{Parts}

-- the list with a number, of some lists
abbrev pub list_at : {X : Type 0} → List (List X) → ℕ → List X
list_at lists b = slice_index_or lists b []

-- the point lies in bucket b, or that of the entry does
abbrev pub lies_at : ℕ → ℕ → ℕ → Bool
lies_at g b p = bucket_of g p == b

abbrev pub is_noted_at : ℕ → ℕ → Entry → Bool
is_noted_at g b e = bucket_of g (point_of e.edit) == b

-- There is a list for each bucket of the grid: those elements for which the test of the bucket holds, in their order.
pub record AreParted {X : Type 0} (g : ℕ) (test : ℕ → X → Bool) (xs : List X) (lists : List (List X)) : Type 0 where
  pub count : length lists ≡ g * g * g
  pub each : (b : ℕ) → b < g * g * g → list_at lists b ≡ filter (test b) xs

-- these are the places of some cells in a list
abbrev pub AreAt : List Cell → List ℕ → List Cell → Type 0
AreAt cells places some = map (slice_get cells) places ≡ map (λ c. Some c) some

-- There is a list for each bucket: the places of the cells, of the first n, that touch the bucket, in their order.
pub record AreCellsParted (g : ℕ) (cells some : List Cell) (lists : List (List ℕ)) : Type 0 where
  pub count : length lists ≡ g * g * g
  pub each : (b : ℕ) → b < g * g * g → AreAt cells (list_at lists b) (filter (touches g b) some)

-- the element is put last in the list with the number, and no other list changes
pub record IsPushedAt {X : Type 0} (b : ℕ) (x : X) (old new : List (List X)) : Type 0 where
  pub count : length new ≡ length old
  pub there : list_at new b ≡ list_at old b ++ x ∷ []
  pub others : (k : ℕ) → k ≢ b → list_at new k ≡ list_at old k

-- it is put last in the lists of those numbers for which the test holds
pub record IsPushedWhere {X : Type 0} (test : ℕ → Bool) (x : X) (old new : List (List X)) : Type 0 where
  pub count : length new ≡ length old
  pub there : (b : ℕ) → b < length old → test b ≡ true → list_at new b ≡ list_at old b ++ x ∷ []
  pub others : (b : ℕ) → test b ≡ false → list_at new b ≡ list_at old b

-- What the buckets from number n on get of a history, and of the list of its cells.
pub record ArePartsFrom (g n : ℕ) (h : List Entry) (cells : List Cell) (parts : Parts) : Type 0 where
  pub points_count : length (map (λ v. v.items) parts.points.items) ≡ g * g * g
  pub entries_count : length (map (λ v. v.items) parts.entries.items) ≡ g * g * g
  pub cells_count : length (map (λ v. v.items) parts.cells.items) ≡ g * g * g
  pub points_are : (b : ℕ) → n ≤ b → b < g * g * g → list_at (map (λ v. v.items) parts.points.items) b
      ≡ points_share g b h
  pub entries_are : (b : ℕ) → n ≤ b → b < g * g * g → list_at (map (λ v. v.items) parts.entries.items) b
      ≡ entries_share g b h
  pub cells_are : (b : ℕ) → n ≤ b → b < g * g * g →
      AreAt cells (list_at (map (λ v. v.items) parts.cells.items) b) (cells_share g b h)

-- The first n buckets of the grid are in hand, each the share of the history.
pub record HasFirst (g n : ℕ) (h : List Entry) (hold : InHand) : Type 0 where
  pub grid : hold.grid ≡ g
  pub count : length hold.places ≡ g * g * g
  pub stands : Stands hold h
  pub there : (b : ℕ) → b < n → IsSome (bucket_at hold.places b)
  pub absent : (b : ℕ) → n ≤ b → bucket_at hold.places b ≡ None
