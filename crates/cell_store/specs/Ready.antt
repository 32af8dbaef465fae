-- What a hold keeps ready for an exchange of cells and for an entry.
use Rattle.std.specs.Prelude.{◌≡◌, ◌≢◌, ℕ, ◌<◌, ◌≤◌, Bool, true, false, not, List, [], ◌∷◌, Option, None, Some, length}
use Rattle.std.specs.Prelude.{IsSome, IsSomeAnd, map}
use Rattle.std.specs.List.{flat_map}
use Rattle.point_order.specs.declared.cell.Cell.{Cell}
use Rattle.point_order.specs.Facets.{points_of}
use Rattle.point_order.specs.Sets.{IsIn, is_among}
use Rattle.bucket_grid.specs.Grids.{bucket_of}
use Rattle.cell_stars.specs.Places.{Placed, cells_of}
use Rattle.cell_stars.specs.Plans.{PlanView, Allows, MakesExchange}
use Rattle.cell_stars.specs.Turns.{AreReady, IsTurn, IsWayBack, WasTurned}
use Rattle.cell_store.specs.Swaps.{touches, swapped}
use Rattle.cell_store.specs.Buckets.{Layout, InHand, bucket_at, cells_in, layout_at, points_at}
use Rattle.cell_store.specs.Changes.{NoneTouches}
use Rattle.cell_changes.specs.Changes.{IsChange}
use Rattle.cell_store.specs.Shares.{Shows}
use Rattle.point_order.specs.Complex.{complex}
use Rattle.cell_store.specs.declared.room.Exchange.{Exchange}
use Rattle.cell_store.specs.declared.room.PlanFor.{PlanFor}

-- no cell of the exchange touches the bucket
abbrev pub IsUntouched : ℕ → ℕ → List Cell → List Cell → Type 0
IsUntouched g b gone fresh = NoneTouches g b gone × NoneTouches g b fresh

-- A plan is carried out, or it was and is turned back: when that can be done, what becomes of plan and bucket, and
-- when it makes the exchange of the gone for the fresh cells.
abbrev pub CanTurn : Bool → PlanView → Placed → Type 0
CanTurn false p b = Allows p b
CanTurn true p b = WasTurned p b

abbrev pub IsTurned : Bool → PlanView → Placed → PlanView → Placed → Type 0
IsTurned false p b q c = IsTurn p b q c
IsTurned true p b q c = IsTurn q c p b

abbrev pub IsExchange : Bool → List Cell → List Cell → Placed → PlanView → Type 0
IsExchange false gone fresh b p = MakesExchange gone fresh b p
IsExchange true gone fresh b p = IsWayBack gone fresh b p

-- a plan is for a bucket in hand, and makes the exchange in it
abbrev pub IsReadyFor : Bool → List Cell → List Cell → List (Option Layout) → PlanFor → Type 0
IsReadyFor t gone fresh places l = IsSomeAnd (layout_at places l.number) (λ c. IsExchange t gone fresh c.cells l.plan)

-- a plan can be carried out or turned back in its bucket, which is in hand
abbrev pub IsAllowed : Bool → List (Option Layout) → PlanFor → Type 0
IsAllowed t places l = IsSomeAnd (layout_at places l.number) (λ c. CanTurn t l.plan c.cells)

-- none of the plans is for the bucket with the number
abbrev pub NoneIsFor : ℕ → List PlanFor → Type 0
NoneIsFor b plans = (l : PlanFor) → IsIn l plans → l.number ≢ b

-- no two are for one bucket
abbrev pub AreForOthers : List PlanFor → Type 0
AreForOthers [] = Unit {0}
AreForOthers (l ∷ ls) = NoneIsFor l.number ls × AreForOthers ls

-- what is ready for an exchange: plans for buckets in hand, one for each that the exchange touches
pub record ArePlansReady (t : Bool) (g : ℕ) (gone fresh : List Cell) (places : List (Option Layout))
    (plans : List PlanFor) : Type 0 where
  pub each : (l : PlanFor) → IsIn l plans → IsReadyFor t gone fresh places l
  pub apart : AreForOthers plans
  pub others : (b : ℕ) → NoneIsFor b plans → IsUntouched g b gone fresh

-- one bucket and its plan, after the plan was carried out or turned back there
pub record IsTurnedIn (t : Bool) (l m : PlanFor) (old new : List (Option Layout)) : Type 0 where
  pub number : m.number ≡ l.number
  pub before : Layout
  pub was : layout_at old l.number ≡ Some before
  pub after : Layout
  pub is : layout_at new l.number ≡ Some after
  pub rest : after ≡ record before { cells = after.cells }
  pub turned : IsTurned t l.plan before.cells m.plan after.cells

-- all of them
abbrev pub AreTurned : Bool → List PlanFor → List PlanFor → List (Option Layout) → List (Option Layout) → Type 0
AreTurned t [] [] old new = Unit {0}
AreTurned t [] (m ∷ ms) old new = ⊥
AreTurned t (l ∷ ls) [] old new = ⊥
AreTurned t (l ∷ ls) (m ∷ ms) old new = IsTurnedIn t l m old new × AreTurned t ls ms old new

-- and no other bucket changes
pub record AreMade (t : Bool) (plans after : List PlanFor) (old new : List (Option Layout)) : Type 0 where
  pub count : length new ≡ length old
  pub turned : AreTurned t plans after old new
  pub others : (b : ℕ) → NoneIsFor b plans → layout_at new b ≡ layout_at old b

-- the exchange that is next after one was made: the one back, where it is kept
abbrev pub NextIs : Bool → Exchange → List PlanFor → Option Exchange → Type 0
NextIs false x after next = next ≡ None
NextIs true x after next =
    (y : Exchange) × (next ≡ Some y) × (y.plans.items ≡ after) × (y.gone.items ≡ x.fresh.items)
    × (y.fresh.items ≡ x.gone.items) × (y.turned ≡ not x.turned)

-- an exchange was made, and is kept for the way back or not
pub record IsExchangeMade (back : Bool) (x : Exchange) (next : Option Exchange) (old new : List (Option Layout)) :
    Type 0 where
  pub after : List PlanFor
  pub made : AreMade x.turned x.plans.items after old new
  pub is : NextIs back x after next

-- a bucket after an exchange, as it is kept
pub record IsBucketAfter (g b : ℕ) (gone fresh : List Cell) (old new : Layout) : Type 0 where
  pub rest : new ≡ record old { cells = new.cells }
  pub place : new.cells.place ≡ old.cells.place
  pub cells : cells_of new.cells.slots ≡ swapped g b gone fresh (cells_of old.cells.slots)

-- where it is in hand
abbrev pub AreExchanged : ℕ → ℕ → List Cell → List Cell → Option Layout → Option Layout → Type 0
AreExchanged g b gone fresh None o = o ≡ None
AreExchanged g b gone fresh (Some c) o = IsSomeAnd o (λ d. IsBucketAfter g b gone fresh c d)

-- The exchange finds its cells: in the buckets of their finite vertices the gone ones are there, and no fresh one is.
pub record FindsCells (hold : InHand) (gone fresh : List Cell) : Type 0 where
  pub there : (b : ℕ) (c : Cell) → IsIn c gone → touches hold.grid b c ≡ true → IsIn c (cells_in hold.places b)
  pub absent : (b : ℕ) (c : Cell) → IsIn c fresh → touches hold.grid b c ≡ true → IsIn c (cells_in hold.places b) → ⊥

-- it finds its cells in every bucket
abbrev pub AreFound : List Cell → List Cell → List (Option Layout) → Type 0
AreFound gone fresh places =
    (b : ℕ) (c : Layout) → layout_at places b ≡ Some c →
    AreReady c.cells.place gone fresh (cells_of c.cells.slots)

-- the buckets with these numbers are in hand
abbrev pub AreInHand : List (Option Layout) → List ℕ → Type 0
AreInHand places numbers = (b : ℕ) → IsIn b numbers → IsSome (layout_at places b)

-- the numbers of the buckets of all finite vertices of the cells
abbrev pub buckets_of_cells : ℕ → List Cell → List ℕ
buckets_of_cells g cells = flat_map (λ c. map (bucket_of g) (points_of c)) cells

-- the number of the bucket of the point
abbrev pub IsBucketOf : ℕ → ℕ → ℕ → Type 0
IsBucketOf g p n = bucket_of g p ≡ n

-- the buckets of all finite vertices of the cells are in hand
abbrev pub AreHeld : InHand → List Cell → Type 0
AreHeld hold l =
    (c : Cell) → IsIn c l → (p : ℕ) → IsIn p (points_of c) → IsSome (bucket_at hold.places (bucket_of hold.grid p))

-- the point can come: there is room for it, and it is not there
pub record CanCome (hold : InHand) (p : ℕ) : Type 0 where
  pub room : hold.room.point ≡ Some p
  pub absent : is_among p (points_at hold.places (bucket_of hold.grid p)) ≡ false

-- there is room for one entry in the bucket
pub record HasRoom (c : Layout) : Type 0 where
  pub points : 0 < c.room_points
  pub entries : 0 < c.room_entries

-- the bucket of the point is in hand, and has room for an entry
abbrev pub IsNoteReady : ℕ → List (Option Layout) → ℕ → Type 0
IsNoteReady g places p = IsSomeAnd (layout_at places (bucket_of g p)) HasRoom

-- there is room for an entry in the bucket, and for one point more
pub record HasMuchRoom (c : Layout) : Type 0 where
  pub points : 1 < c.room_points
  pub entries : 0 < c.room_entries

-- The point can come into the bucket and go, and there is always room for one point besides.
pub record HasPlaceFor (p : ℕ) (c : Layout) : Type 0 where
  pub absent : is_among p c.points ≡ false → 1 < c.room_points
  pub there : is_among p c.points ≡ true → 0 < c.room_points

-- the bucket of the point is in hand, and the point can come and go
abbrev pub IsPointReady : ℕ → List (Option Layout) → ℕ → Type 0
IsPointReady g places p = IsSomeAnd (layout_at places (bucket_of g p)) (HasPlaceFor p)

-- the same bucket, with no less room
pub record IsRoomier (old new : Layout) : Type 0 where
  pub points : new.points ≡ old.points
  pub cells : new.cells ≡ old.cells
  pub entries : new.entries ≡ old.entries
  pub for_points : old.room_points ≤ new.room_points
  pub for_entries : old.room_entries ≤ new.room_entries

-- where it is in hand
abbrev pub AreRoomier : Option Layout → Option Layout → Type 0
AreRoomier None new = new ≡ None
AreRoomier (Some c) new = IsSomeAnd new (IsRoomier c)

-- so is every bucket
pub record AllRoomier (old new : List (Option Layout)) : Type 0 where
  pub count : length new ≡ length old
  pub each : (b : ℕ) → AreRoomier (layout_at old b) (layout_at new b)

-- An exchange of exactly what is gone and new finds its cells, where those that go are held.
abbrev pub ChangeFindsCells : Type 0
ChangeFindsCells =
    (hold : InHand) (s : List ℕ) (t gone fresh : List Cell) → Shows hold s → IsChange (complex s) t gone fresh →
    AreHeld hold gone → FindsCells hold gone fresh
