-- What a pass has done so far in a snapshot.
use Rattle.std.specs.Prelude.{◌≡◌, ℕ, ◌<◌, ◌≤◌, List, [], ◌∷◌, ◌++◌, length}
use Rattle.std.specs.List.{range_with_len}
use Rattle.atomic_table.specs.Seated.{TableId}
use Rattle.point_order.specs.declared.cell.Cell.{Cell}
use Rattle.point_order.specs.Complex.{complex}
use Rattle.edit_history.specs.declared.history.Entry.{Entry}
use Rattle.edit_history.specs.Histories.{replay}
use Rattle.cell_store.specs.Buckets.{InHand}
use Rattle.cell_store.specs.Meshes.{AllInHand, StandsForSome}
use Rattle.cell_store.specs.Shares.{Stands}
use Rattle.claim_rule.specs.Boards.{made_by}
use Rattle.claim_rule.specs.Good.{StartsWith}
use Rattle.claim_table.specs.declared.hands.Hands.{Hands}
use Rattle.claim_table.specs.declared.view.Act.TheVariants.{Look}
use Rattle.claim_table.specs.Hands.{releases_of, AreHands, HasClaimed}

-- The claims in turn: just the buckets below b were claimed, and what is in hand stands for some history.
pub record IsClaimingAll (id : TableId) (buckets : ℕ) (old now : Hands) (b : ℕ) : Type 0 where
  pub hands : AreHands id buckets now
  pub claimed : HasClaimed old now []
  pub order : now.order.items ≡ range_with_len 0 b
  pub stands : 0 < b → StandsForSome now.hold

-- Every bucket was claimed, in turn, and what is in hand stands for some history.
pub record HasClaimedAll (old now : Hands) : Type 0 where
  pub claimed : HasClaimed old now []
  pub order : now.order.items ≡ range_with_len 0 (length now.hold.places)
  pub all : AllInHand now.hold
  pub stands : StandsForSome now.hold

-- the lists are the history for which the hold stands, and the complex of the points that it leaves
abbrev pub AreListsOf : InHand → List Entry → List Cell → Type 0
AreListsOf hold entries cells = (h : List Entry) → Stands hold h → (entries ≡ h) × (cells ≡ complex (replay h))

-- The pass looked at the ticket, and then gave all buckets back. They were those of the history so far, which it knows
-- now; else it is as it was.
pub record HasLooked (found : ℕ) (old new : Hands) : Type 0 where
  pub history : List Entry
  pub count : length history ≡ found
  pub stands : Stands old.hold history
  pub knows : StartsWith history old.place.me.0.known
  pub own : old.place.me.0.made
      ≡ made_by old.place.me.0.first old.place.me.0.parts (length old.place.me.0.opening) history
  pub later : old.place.me.0.seen ≤ found
  pub view : new.place.me.0 ≡ record old.place.me.0 {
    held = new.hold.places;
    seen = found;
    known = history;
    trail = old.place.me.0.trail ++ Look found ∷ releases_of old.order.items;
  }
