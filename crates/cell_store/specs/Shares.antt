-- What a bucket has of a history, and when a hold stands for one.
use Rattle.std.specs.Prelude.{◌≡◌, ℕ, true, None, Some, List, ◌==◌}
use Rattle.std.specs.List.{filter}
use Rattle.point_order.specs.declared.cell.Cell.{Cell}
use Rattle.point_order.specs.declared.cell.Facet.{Facet}
pub use Rattle.point_order.specs.Facets.{points_on}
use Rattle.point_order.specs.Complex.{complex}
use Rattle.point_order.specs.Sets.{IsIn, IsAscending}
use Rattle.point_order.specs.Solid.{is_solid}
use Rattle.edit_history.specs.declared.history.Entry.{Entry}
use Rattle.edit_history.specs.Edits.{point_of}
use Rattle.edit_history.specs.Histories.{replay, IsLegal}
use Rattle.del_laws.specs.Keys.{AreKeys}
use Rattle.hole_laws.specs.Edits.{IsSolidSet}
use Rattle.bucket_grid.specs.Grids.{bucket_of}
use Rattle.hole_laws.specs.Others.{IsOtherOf}
use Rattle.cell_store.specs.Swaps.{touches}
use Rattle.cell_store.specs.Buckets.{BucketContent, InHand, bucket_at}

-- the points that a history leaves in bucket b
abbrev pub points_share : ℕ → ℕ → List Entry → List ℕ
points_share g b h = filter (λ p. bucket_of g p == b) (replay h)

-- the cells of the complex that it leaves with a finite vertex in b
abbrev pub cells_share : ℕ → ℕ → List Entry → List Cell
cells_share g b h = filter (touches g b) (complex (replay h))

-- its entries whose point lies in b
abbrev pub entries_share : ℕ → ℕ → List Entry → List Entry
entries_share g b h = filter (λ e. bucket_of g (point_of e.edit) == b) h

-- the share of bucket b in a history: these three lists
pub record IsShare (g b : ℕ) (h : List Entry) (c : BucketContent) : Type 0 where
  pub points : c.points ≡ points_share g b h
  pub cells : c.cells ≡ cells_share g b h
  pub entries : c.entries ≡ entries_share g b h

-- the share of bucket b as a bucket that stands in its place
abbrev pub share_at : ℕ → ℕ → List Entry → BucketContent
share_at g b h = record {
  points = points_share g b h;
  cells = cells_share g b h;
  entries = entries_share g b h;
  place = Some (g, b);
}

-- A bucket in its place that is a share is that one.
abbrev pub ShareIsOne : Type 0
ShareIsOne = (g b : ℕ) (h : List Entry) (c : BucketContent) → IsShare g b h c → c.place ≡ Some (g, b) → c
    ≡ share_at g b h

-- the history is legal, and the points that it leaves are a solid set
pub record IsSound (h : List Entry) : Type 0 where
  pub legal : IsLegal h
  pub set : IsSolidSet (replay h)

-- every bucket in hand is its share of the history
abbrev pub AreShares : InHand → List Entry → Type 0
AreShares hold h = (b : ℕ) (c : BucketContent) → bucket_at hold.places b ≡ Some c → IsShare hold.grid b h c

-- The hold stands for a history: the history is legal, its points are keys of points and solid,
-- and every bucket in hand is its share of it.
pub record Stands (hold : InHand) (h : List Entry) : Type 0 where
  pub legal : IsLegal h
  pub keys : AreKeys (replay h)
  pub solid : is_solid (replay h) ≡ true
  pub shares : AreShares hold h

-- bucket b has exactly its points of the set s, and the cells of its complex with a finite vertex in b
pub record IsSight (g b : ℕ) (s : List ℕ) (c : BucketContent) : Type 0 where
  pub points : c.points ≡ filter (λ p. bucket_of g p == b) s
  pub cells : c.cells ≡ filter (touches g b) (complex s)

-- The hold shows a set: its points are keys in order and solid, and every bucket in hand has
-- what lies in it. Entries are nothing to it.
pub record Shows (hold : InHand) (s : List ℕ) : Type 0 where
  pub ascending : IsAscending s
  pub keys : AreKeys s
  pub solid : is_solid s ≡ true
  pub sights : (b : ℕ) (c : BucketContent) → bucket_at hold.places b ≡ Some c → IsSight hold.grid b s c

-- A hold that stands for a history shows the set that it leaves.
abbrev pub StandsShows : Type 0
StandsShows = (hold : InHand) (h : List Entry) → Stands hold h → Shows hold (replay h)

-- the other cell of the complex of the set, on a facet of one of its cells
abbrev pub IsAcross : List ℕ → Cell → Facet → Cell → Type 0
IsAcross s cell facet other = IsOtherOf (complex s) cell facet other

-- the hold shows some set
abbrev pub ShowsSome : InHand → Type 0
ShowsSome hold = (s : List ℕ) × Shows hold s

-- the hold shows a set of whose complex the cell is one
abbrev pub ShowsWith : InHand → Cell → Type 0
ShowsWith hold cell = (s : List ℕ) × Shows hold s × IsIn cell (complex s)

-- no bucket of a point of the list is in hand
abbrev pub NoneInHand : InHand → List ℕ → Type 0
NoneInHand hold ps = (p : ℕ) → IsIn p ps → bucket_at hold.places (bucket_of hold.grid p) ≡ None

-- bucket b is that of a point of the list, and is in hand
pub record IsInHandFor (hold : InHand) (ps : List ℕ) (b : ℕ) : Type 0 where
  pub point : ℕ
  pub among : IsIn point ps
  pub number : b ≡ bucket_of hold.grid point
  pub content : BucketContent
  pub held : bucket_at hold.places b ≡ Some content
