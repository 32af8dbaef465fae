-- What an entry changes in a hold: the cells that it takes away and adds, its point, and itself.
use Rattle.std.specs.Prelude.{◌≡◌, ℕ, true, false, List, [], ◌∷◌, ◌++◌, length, ◌==◌, if◌then◌else◌}
use Rattle.std.specs.Option.{option_map, option_map_or}
use Rattle.point_order.specs.declared.cell.Cell.{Cell}
use Rattle.point_order.specs.Complex.{complex}
use Rattle.point_order.specs.Sets.{IsIn, with_point, without_point}
use Rattle.point_order.specs.Solid.{is_solid}
use Rattle.edit_history.specs.declared.history.Entry.{Entry}
use Rattle.edit_history.specs.Edits.{HasKeys, is_move, point_of, reply_to, changed, after}
use Rattle.edit_history.specs.Histories.{replay, IsLegal}
use Rattle.cell_changes.specs.Changes.{IsChange}
use Rattle.del_laws.specs.Keys.{AreKeys}
use Rattle.bucket_grid.specs.Grids.{bucket_of}
use Rattle.cell_store.specs.Swaps.{touches, swapped}
use Rattle.cell_store.specs.Buckets.{BucketContent, InHand, bucket_at}
use Rattle.cell_store.specs.Points.{came}
use Rattle.cell_store.specs.Shares.{Stands, IsSound, IsShare}

-- the bucket b after an exchange of cells
abbrev pub swapped_in : ℕ → ℕ → List Cell → List Cell → BucketContent → BucketContent
swapped_in g b gone fresh c = record c { cells = swapped g b gone fresh c.cells }

-- every bucket in hand after an exchange of cells, and no other place changes
pub record IsSwapped (gone fresh : List Cell) (old new : InHand) : Type 0 where
  pub grid : new.grid ≡ old.grid
  pub count : length new.places ≡ length old.places
  pub places : (b : ℕ) → bucket_at new.places b ≡ option_map (swapped_in old.grid b gone fresh) (bucket_at old.places b)

-- the bucket b after an entry: the bucket of its point has the entry last, and the point as its reply says
abbrev pub noted_in : ℕ → ℕ → Entry → BucketContent → BucketContent
noted_in g b e c =
    if bucket_of g (point_of e.edit) == b
    then record c { points = changed c.points (point_of e.edit) e.reply; entries = c.entries ++ e ∷ [] }
    else c

-- every bucket in hand after an entry, and no other place changes
pub record IsNoted (e : Entry) (old new : InHand) : Type 0 where
  pub grid : new.grid ≡ old.grid
  pub count : length new.places ≡ length old.places
  pub places : (b : ℕ) → bucket_at new.places b ≡ option_map (noted_in old.grid b e) (bucket_at old.places b)

-- the bucket b with a point that lies in it
abbrev pub put_in : ℕ → ℕ → ℕ → BucketContent → BucketContent
put_in g b p c = if bucket_of g p == b then record c { points = with_point p c.points } else c

-- and without it
abbrev pub dropped_in : ℕ → ℕ → ℕ → BucketContent → BucketContent
dropped_in g b p c = if bucket_of g p == b then record c { points = without_point p c.points } else c

-- every bucket in hand with a point more, and no other place changes
pub record IsPut (p : ℕ) (old new : InHand) : Type 0 where
  pub grid : new.grid ≡ old.grid
  pub count : length new.places ≡ length old.places
  pub places : (b : ℕ) → bucket_at new.places b ≡ option_map (put_in old.grid b p) (bucket_at old.places b)

-- every bucket in hand with a point less, and no other place changes
pub record IsDropped (p : ℕ) (old new : InHand) : Type 0 where
  pub grid : new.grid ≡ old.grid
  pub count : length new.places ≡ length old.places
  pub places : (b : ℕ) → bucket_at new.places b ≡ option_map (dropped_in old.grid b p) (bucket_at old.places b)

-- the bucket b after the place came to which a point has moved, if the entry tells of one
abbrev pub arrived_in : ℕ → ℕ → Entry → BucketContent → BucketContent
arrived_in g b e c = option_map_or (λ p. put_in g b p c) (came e.edit e.reply) c

-- every bucket in hand after it, and no other place changes
pub record IsArrived (e : Entry) (old new : InHand) : Type 0 where
  pub grid : new.grid ≡ old.grid
  pub count : length new.places ≡ length old.places
  pub places : (b : ℕ) → bucket_at new.places b ≡ option_map (arrived_in old.grid b e) (bucket_at old.places b)

-- the bucket b after all that an entry makes of it
abbrev pub brought_in : ℕ → ℕ → List Cell → List Cell → Entry → BucketContent → BucketContent
brought_in g b gone fresh e c = noted_in g b e (arrived_in g b e (swapped_in g b gone fresh c))

-- The history with an entry is legal, the points that it leaves are keys and solid, and gone and fresh are exactly what
-- the entry takes from the complex and adds to it.
pub record IsNext (h : List Entry) (e : Entry) (gone fresh : List Cell) : Type 0 where
  pub legal : IsLegal (h ++ e ∷ [])
  pub keys : AreKeys (replay (h ++ e ∷ []))
  pub solid : is_solid (replay (h ++ e ∷ [])) ≡ true
  pub change : IsChange (complex (replay h)) (complex (replay (h ++ e ∷ []))) gone fresh

-- The entry follows the history: it has the next number and the reply of the points that are left, and gone
-- and fresh are exactly what its edit takes from their complex and adds to it, which may be nothing. The
-- laws of insertion and removal supply the last.
pub record Follows (h : List Entry) (e : Entry) (gone fresh : List Cell) : Type 0 where
  pub number : e.number ≡ length h
  pub reply : e.reply ≡ reply_to (replay h) e.edit
  pub change : IsChange (complex (replay h)) (complex (after (replay h) e.edit)) gone fresh

-- After a sound history such an entry is next.
abbrev pub NextEntry : Type 0
NextEntry =
    (h : List Entry) (e : Entry) (gone fresh : List Cell) → IsSound h → HasKeys e.edit →
    Follows h e gone fresh → IsNext h e gone fresh

-- A hold that stands for a history stands, after the exchange of the gone and the new cells and after
-- the entry, for the history with the entry.
abbrev pub EntryKeepsHold : Type 0
EntryKeepsHold =
    (h : List Entry) (e : Entry) (gone fresh : List Cell) (old between new : InHand) →
    Stands old h → IsNext h e gone fresh → is_move e.edit ≡ false → IsSwapped gone fresh old between →
    IsNoted e between new →
    Stands new (h ++ e ∷ [])

-- The share of a bucket in the history with the entry is that exact function of its share before.
abbrev pub ShareAfterEntry : Type 0
ShareAfterEntry =
    (g b : ℕ) (h : List Entry) (e : Entry) (gone fresh : List Cell) (c : BucketContent) →
    IsNext h e gone fresh → is_move e.edit ≡ false → IsShare g b h c →
    IsShare g b (h ++ e ∷ []) (noted_in g b e (swapped_in g b gone fresh c))

-- No finite vertex of these cells lies in the bucket.
abbrev pub NoneTouches : ℕ → ℕ → List Cell → Type 0
NoneTouches g b l = (c : Cell) → IsIn c l → touches g b c ≡ false

-- A bucket with no finite vertex of a gone or a new cell, and without the entry's point, keeps its share.
abbrev pub ShareElsewhere : Type 0
ShareElsewhere =
    (g b : ℕ) (h : List Entry) (e : Entry) (gone fresh : List Cell) (c : BucketContent) →
    IsNext h e gone fresh → is_move e.edit ≡ false → (bucket_of g (point_of e.edit) == b) ≡ false →
    NoneTouches g b gone →
    NoneTouches g b fresh →
    IsShare g b h c → IsShare g b (h ++ e ∷ []) c

-- The share of a bucket after any entry, a move too, is that exact function of its share before.
abbrev pub ShareAfterAny : Type 0
ShareAfterAny =
    (g b : ℕ) (h : List Entry) (e : Entry) (gone fresh : List Cell) (c : BucketContent) →
    IsNext h e gone fresh → IsShare g b h c → IsShare g b (h ++ e ∷ []) (brought_in g b gone fresh e c)

-- So a hold that stands for a history stands for the history with the entry, after the exchange of the cells, after the
-- place came to which a point has moved, and after the entry.
abbrev pub AnyKeepsHold : Type 0
AnyKeepsHold =
    (h : List Entry) (e : Entry) (gone fresh : List Cell) (old swap put new : InHand) →
    Stands old h → IsNext h e gone fresh → IsSwapped gone fresh old swap → IsArrived e swap put → IsNoted e put new →
    Stands new (h ++ e ∷ [])
