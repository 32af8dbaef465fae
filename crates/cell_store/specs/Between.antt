-- A hold with one point more, for a while: in the middle of a move the new place is there, and the old one still is.
use Rattle.std.specs.Prelude.{◌≡◌, ℕ, ◌++◌, true, List, Some, IsSome}
use Rattle.point_order.specs.Complex.{complex}
use Rattle.point_order.specs.Sets.{with_point}
use Rattle.point_order.specs.declared.cell.Cell.{Cell}
use Rattle.edit_history.specs.declared.history.Edit.TheVariants.{Add}
use Rattle.hole_laws.specs.Edits.{IsNew, IsSolidSet}
use Rattle.bucket_grid.specs.Grids.{bucket_of}
use Rattle.cell_store.specs.Buckets.{BucketContent, InHand, bucket_at}
use Rattle.cell_store.specs.Changes.{IsDropped, IsPut, IsSwapped}
use Rattle.cell_changes.specs.Changes.{IsChange}
use Rattle.cell_store.specs.Meshes.{IsWhole}
use Rattle.cell_store.specs.Ready.{AreHeld}
use Rattle.cell_store.specs.Shares.{IsSight, Shows}
use Rattle.cell_store.specs.Swaps.{without_cells}
use Rattle.cell_store.specs.Touches.{IsTouched}

-- The point is new to the set, and gone and fresh are exactly what it changes of the complex, all in hand.
pub record Enters (hold : InHand) (s : List ℕ) (gone fresh : List Cell) (p : ℕ) : Type 0 where
  pub shown : Shows hold s
  pub new : IsNew s p
  pub change : IsChange (complex s) (complex (with_point p s)) gone fresh
  pub held : IsSome (bucket_at hold.places (bucket_of hold.grid p))
  pub gone_held : AreHeld hold gone
  pub fresh_held : AreHeld hold fresh

-- the hold after the cells were exchanged and the point was put in
pub record IsEntered (gone fresh : List Cell) (p : ℕ) (old new : InHand) : Type 0 where
  pub between : InHand
  pub swapped : IsSwapped gone fresh old between
  pub put : IsPut p between new

-- the hold after the point was taken out and the cells were exchanged back
pub record IsLeft (gone fresh : List Cell) (p : ℕ) (old new : InHand) : Type 0 where
  pub between : InHand
  pub dropped : IsDropped p old between
  pub swapped : IsSwapped fresh gone between new

-- there is room for both, there and back, and the first exchange is next
pub record HasWay (hold : InHand) (gone fresh : List Cell) (p : ℕ) : Type 0 where
  pub swap : hold.room.swap ≡ Some (gone, fresh)
  pub point : hold.room.point ≡ Some p
  pub back : hold.room.back ≡ true

-- the hold was entered by the point
pub record WasEntered (gone fresh : List Cell) (p : ℕ) (new : InHand) : Type 0 where
  pub before : InHand
  pub set : List ℕ
  pub enters : Enters before set gone fresh p
  pub entered : IsEntered gone fresh p before new

-- every bucket of the grid is in hand, and the hold shows the set
pub record ShowsWhole (hold : InHand) (s : List ℕ) : Type 0 where
  pub whole : IsWhole hold
  pub shown : Shows hold s

-- With the point a hold shows the set with it.
abbrev pub EnteredShows : Type 0
EnteredShows =
    (hold new : InHand) (s : List ℕ) (gone fresh : List Cell) (p : ℕ) →
    Enters hold s gone fresh p → IsEntered gone fresh p hold new → Shows new (with_point p s)

-- There and back it is as before.
abbrev pub LeftIsSame : Type 0
LeftIsSame =
    (hold mid new : InHand) (s : List ℕ) (gone fresh : List Cell) (p : ℕ) →
    Enters hold s gone fresh p → IsEntered gone fresh p hold mid → IsLeft gone fresh p mid new →
    (new.grid ≡ hold.grid) × (new.places ≡ hold.places)

-- A bucket that the point does not touch has the same of both sets, so it can be taken in hand in between.
abbrev pub SightOutside : Type 0
SightOutside =
    (g b : ℕ) (s : List ℕ) (p : ℕ) (c : BucketContent) → IsSight g b s c → IsSolidSet s → IsNew s p →
    ¬ (IsTouched g s (Add p) b) → IsSight g b (with_point p s) c

-- Two changes, one after the other, are one: what either takes away and the other does not add, and what either adds
-- and the other does not take away.
abbrev pub ChangesCompose : Type 0
ChangesCompose =
    (s t u gone fresh gone2 fresh2 : List Cell) → IsChange s t gone fresh → IsChange t u gone2 fresh2 →
    IsChange s u (without_cells fresh2 gone ++ without_cells fresh gone2)
    (without_cells gone2 fresh ++ without_cells gone fresh2)
