-- Meshes, seen as their grid and their history, and the holds that are meshes.
use Rattle.std.specs.Prelude.{◌≡◌, ℕ, ◌-◌, ◌*◌, ◌^◌, ◌<◌, ltb, if◌then◌else◌, min, true, List, [], ◌∷◌, ◌++◌, length}
use Rattle.std.specs.Prelude.{slice_set, Some, None, IsSome, IsPermutation, Option}
use Rattle.std.specs.List.{flat_map}
use Rattle.std.specs.Option.{option_map_or}
use Rattle.std.specs.List.Sorted.{IsStrictlySortedBy}
use Rattle.point_order.specs.declared.cell.Cell.{Cell}
use Rattle.point_order.specs.CellOrder.{cell_cmp, AreSameCells}
use Rattle.point_order.specs.Complex.{complex}
use Rattle.edit_history.specs.declared.history.Entry.{Entry}
use Rattle.edit_history.specs.Merging.{AreNumbered, numbers, places_of}
use Rattle.hole_laws.specs.Edits.{IsSolidSet}
use Rattle.bucket_grid.specs.Grids.{is_grid_size}
use Rattle.cell_store.specs.Buckets.{BucketContent, InHand, empty_hold, bucket_at, at_place, no_room}
use Rattle.cell_store.specs.Shares.{Stands, IsSound, Shows, IsShare, IsSight}
use Rattle.cell_store.specs.Ready.{AreHeld}

-- every bucket of the grid is in hand
abbrev pub AllInHand : InHand → Type 0
AllInHand hold = (b : ℕ) → b < length hold.places → IsSome (bucket_at hold.places b)

-- the grid has one of the five sizes, and there is a place for each of its buckets, as in every hold
pub record HasPlaces (hold : InHand) : Type 0 where
  pub size : is_grid_size hold.grid ≡ true
  pub places : length hold.places ≡ hold.grid * hold.grid * hold.grid

-- and every bucket is in hand
pub record IsWhole (hold : InHand) : Type 0 where
  pub has : HasPlaces hold
  pub all : AllInHand hold

-- the hold stands for some history
abbrev pub StandsForSome : InHand → Type 0
StandsForSome hold = (h : List Entry) × Stands hold h

-- A mesh: the size of its grid, and its history.
pub record MeshView : Type 0 where
  pub grid : ℕ
  pub history : List Entry

-- The buckets are those of the mesh: all of its grid, the shares of its history, which is legal and of a solid set.
pub record IsHoldOf (mesh : MeshView) (hold : InHand) : Type 0 where
  pub grid : hold.grid ≡ mesh.grid
  pub whole : IsWhole hold
  pub stands : Stands hold mesh.history

-- the list with one more entry, before the first with a greater number
abbrev pub with_entry : Entry → List Entry → List Entry
with_entry e [] = e ∷ []
with_entry e (d ∷ l) = if ltb e.number d.number then e ∷ d ∷ l else d ∷ with_entry e l

-- the entries of a list in order of number
unfoldable pub by_number : List Entry → List Entry
by_number [] = []
by_number (e ∷ l) = with_entry e (by_number l)

-- the entries of all buckets in hand, those of bucket 0 first
abbrev pub all_entries : List (Option BucketContent) → List Entry
all_entries places = flat_map (λ o. option_map_or (λ c. c.entries) o []) places

-- in order of number
abbrev pub history_in : List (Option BucketContent) → List Entry
history_in places = by_number (all_entries places)

-- the mesh of these buckets
abbrev pub mesh_in : InHand → MeshView
mesh_in hold = record { grid = hold.grid; history = history_in hold.places }

-- how far 64 bits can count it
abbrev pub within_64_bits : ℕ → ℕ
within_64_bits n = min n (2 ^ 64 - 1)

-- the cells of all buckets in hand, those of bucket 0 first
abbrev pub all_cells : List (Option BucketContent) → List Cell
all_cells places = flat_map (λ o. option_map_or (λ c. c.cells) o []) places

-- the new list has some cells behind those of the old one, in any order
abbrev pub HasCellsMore : List Cell → List Cell → List Cell → Type 0
HasCellsMore cells old new = (more : List Cell) × IsPermutation cells more × (new ≡ old ++ more)

-- With every bucket in hand a hold stands for one history at most: the entries of its buckets, in order of number.
abbrev pub HistoryIs : Type 0
HistoryIs = (hold : InHand) (h : List Entry) → IsWhole hold → Stands hold h → history_in hold.places ≡ h

-- So the buckets of a mesh tell which mesh it is.
abbrev pub MeshIs : Type 0
MeshIs = (mesh : MeshView) (hold : InHand) → IsHoldOf mesh hold → mesh_in hold ≡ mesh

-- The entries of all buckets are those of the history, and put in the order of their numbers they are the history.
pub record GathersHistory (hold : InHand) (h : List Entry) : Type 0 where
  pub entries : IsPermutation (all_entries hold.places) h
  pub numbered : AreNumbered (all_entries hold.places)
  pub ordered : (l : List Entry) → IsPermutation (all_entries hold.places) l → numbers l ≡ places_of l → l ≡ h

abbrev pub MeshGathersHistory : Type 0
MeshGathersHistory = (hold : InHand) (h : List Entry) → IsWhole hold → Stands hold h → GathersHistory hold h

-- The cells of all buckets are those of the complex of the set that the hold shows, and
-- in order, each once, they are the complex.
pub record GathersComplex (hold : InHand) (s : List ℕ) : Type 0 where
  pub cells : AreSameCells (all_cells hold.places) (complex s)
  pub ordered : (l : List Cell) → IsStrictlySortedBy cell_cmp l → AreSameCells (all_cells hold.places) l → l ≡ complex s

abbrev pub MeshGathersComplex : Type 0
MeshGathersComplex = (hold : InHand) (s : List ℕ) → IsWhole hold → Shows hold s → GathersComplex hold s

-- With every bucket in hand, the cells of any list are held.
abbrev pub AllAreHeld : Type 0
AllAreHeld = (hold : InHand) (l : List Cell) → HasPlaces hold → AllInHand hold → AreHeld hold l

-- the buckets of one hold are among those of another of the same grid, with the same content
pub record AreAmong (few many : InHand) : Type 0 where
  pub grid : few.grid ≡ many.grid
  pub buckets : (b : ℕ) (c : BucketContent) → bucket_at few.places b ≡ Some c → bucket_at many.places b ≡ Some c

-- With fewer buckets in hand a hold stands for what it stood for, and shows what it showed.
abbrev pub FewerStand : Type 0
FewerStand = (few many : InHand) (h : List Entry) → AreAmong few many → Stands many h → Stands few h

abbrev pub FewerShow : Type 0
FewerShow = (few many : InHand) (s : List ℕ) → AreAmong few many → Shows many s → Shows few s

-- With more buckets in hand the cells that were held are held.
abbrev pub MoreAreHeld : Type 0
MoreAreHeld = (few many : InHand) (l : List Cell) → AreAmong few many → AreHeld few l → AreHeld many l

-- the hold with a bucket more, which then stands in its place
abbrev pub with_bucket : ℕ → BucketContent → InHand → InHand
with_bucket b c hold = record hold { places = slice_set hold.places b (Some (at_place hold.grid b c)) }

-- and with one less, and no room
abbrev pub without_bucket : ℕ → InHand → InHand
without_bucket b hold = record hold { places = slice_set hold.places b None; room = no_room }

-- With no bucket in hand a hold stands for every sound history, and shows every solid set.
abbrev pub EmptyStands : Type 0
EmptyStands = (g : ℕ) (h : List Entry) → IsSound h → Stands (empty_hold g) h

abbrev pub EmptyShows : Type 0
EmptyShows = (g : ℕ) (s : List ℕ) → IsSolidSet s → Shows (empty_hold g) s

-- A hold that takes a share in hand stands for what it stood for, and one that
-- takes a sight in hand shows what it showed.
abbrev pub PutStands : Type 0
PutStands = (hold : InHand) (b : ℕ) (c : BucketContent) (h : List Entry) → Stands hold h → IsShare hold.grid b h c →
    Stands (with_bucket b c hold) h

abbrev pub PutShows : Type 0
PutShows = (hold : InHand) (b : ℕ) (c : BucketContent) (s : List ℕ) → Shows hold s → IsSight hold.grid b s c →
    Shows (with_bucket b c hold) s

-- Its buckets before are among those after, where the bucket was not in hand; and
-- without a bucket they are among those before.
abbrev pub PutIsMore : Type 0
PutIsMore =
    (hold : InHand) (b : ℕ) (c : BucketContent) → bucket_at hold.places b ≡ None → AreAmong hold (with_bucket b c hold)

abbrev pub TakeIsFewer : Type 0
TakeIsFewer = (hold : InHand) (b : ℕ) → AreAmong (without_bucket b hold) hold
