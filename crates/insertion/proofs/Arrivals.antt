-- What a new point changes, by turns.
use Rattle.std.specs.Prelude.{◌≡◌, ℕ, List}
use Rattle.std.proofs.Common.{sym, subst}
use Rattle.point_order.specs.declared.cell.Cell.{Cell}
use Rattle.cell_store.specs.Buckets.{InHand}
use Rattle.cell_store.specs.Ready.{AreHeld}
use Rattle.cavity.specs.Digs.{Digging, IsDoneIn}
use Rattle.cavity.specs.Fills.{IsFilled}
use Rattle.cavity.specs.Turns.{TurnGives, NoneIsNeeded}
use Rattle.cavity.specs.declared.dig.DigTurn.{DigTurn}
use Rattle.cavity.specs.declared.dig.DigTurn.TheVariants.{Done}
use Rattle.cavity.specs.declared.fill_hole.Fresh.{Fresh}
use Rattle.insertion.specs.Arrivals.{ArrivalGives, ArrivalStays}
use Rattle.insertion.specs.declared.arrival.Arrival.TheVariants.{Seeks, Digs}
use Rattle.insertion.specs.declared.arrival.ArrivalTurn.TheVariants.{Done as Comes}
use Rattle.insertion.proofs.Searches.{search_stays}

-- with the dig done the hole is filled
pub dug : (hold : InHand) (s : List ℕ) (p : ℕ) (d : Digging) (turn : DigTurn) (f : Fresh) → d.point ≡ p → turn ≡ Done →
    TurnGives hold s d turn → f.gone.items ≡ d.found → (IsDoneIn s d → IsFilled s d.point f.gone.items f.fresh.items) →
    ArrivalGives hold s p (Comes f)
dug hold s p d turn f point is gives gone fills =
    let g = subst (λ (t : DigTurn). TurnGives hold s d t) is gives in (
      subst (λ (x : ℕ). NoneIsNeeded hold s x) point g.0,
      subst (λ (x : ℕ). IsFilled s x f.gone.items f.fresh.items) point (fills g.1),
      subst (λ (l : List Cell). AreHeld hold l) (sym gone) g.2,
    )

-- an arrival that stands right does so with more buckets in hand
pub arrival_stays : ArrivalStays
arrival_stays few many s p (Seeks search) a k = (k.0, search_stays few many s p search a k.1)
arrival_stays few many s p (Digs dig) a k = k
