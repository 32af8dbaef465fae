-- What a new point changes, found by turns over a hold of buckets.
use Rattle.std.specs.Prelude.{◌≡◌, ℕ, List}
use Rattle.hole_laws.specs.Edits.{IsNew}
use Rattle.cell_store.specs.Buckets.{InHand}
use Rattle.cell_store.specs.Meshes.{AreAmong}
use Rattle.cell_store.specs.Ready.{AreHeld}
use Rattle.cell_store.specs.Shares.{Shows}
use Rattle.cavity.specs.Digs.{IsDigIn}
use Rattle.cavity.specs.Fills.{IsFilled}
use Rattle.cavity.specs.Turns.{NoneIsNeeded}
use Rattle.insertion.specs.Searches.{IsLacking, IsSearchIn}
use Rattle.insertion.specs.declared.arrival.Arrival.{Arrival}
use Rattle.insertion.specs.declared.arrival.Arrival.TheVariants.{Seeks, Digs}
use Rattle.insertion.specs.declared.arrival.ArrivalTurn.{ArrivalTurn}
use Rattle.insertion.specs.declared.arrival.ArrivalTurn.TheVariants.{Done, Need}

-- p is new, and the search for a first cell is one in the complex of s; or the dig is one, for p
abbrev pub IsArrivalIn : InHand → List ℕ → ℕ → Arrival → Type 0
IsArrivalIn hold s p (Seeks search) = IsNew s p × IsSearchIn hold s p search
IsArrivalIn hold s p (Digs dig) = (dig.point ≡ p) × IsDigIn s dig

-- it begins for every new point
abbrev pub IsBegun : Arrival → Type 0
IsBegun arrival = (hold : InHand) (s : List ℕ) (p : ℕ) → IsNew s p → IsArrivalIn hold s p arrival

-- the hold shows a set in which it is one
abbrev pub ShowsArrival : InHand → ℕ → Arrival → Type 0
ShowsArrival hold p arrival = (s : List ℕ) × Shows hold s × IsArrivalIn hold s p arrival

-- Done where no bucket is needed: the cells that go, whose buckets are in hand, and those that come. Else a bucket that
-- is lacking, with the arrival that goes on when it came.
abbrev pub ArrivalGives : InHand → List ℕ → ℕ → ArrivalTurn → Type 0
ArrivalGives hold s p (Done f) =
    NoneIsNeeded hold s p × IsFilled s p f.gone.items f.fresh.items × AreHeld hold f.gone.items
ArrivalGives hold s p (Need b next) = IsLacking hold b × IsArrivalIn hold s p next

-- the answer is right for every set that the hold shows
abbrev pub ArrivalAnswers : InHand → ℕ → Arrival → ArrivalTurn → Type 0
ArrivalAnswers hold p arrival turn =
    (s : List ℕ) → Shows hold s → IsArrivalIn hold s p arrival → ArrivalGives hold s p turn

-- with more buckets in hand it is one
abbrev pub ArrivalStays : Type 0
ArrivalStays =
    (few many : InHand) (s : List ℕ) (p : ℕ) (arrival : Arrival) → AreAmong few many →
    IsArrivalIn few s p arrival → IsArrivalIn many s p arrival
