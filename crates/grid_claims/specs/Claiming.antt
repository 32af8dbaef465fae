-- What a pass has done so far in a try.
use Rattle.std.specs.Prelude.{◌≡◌, ℕ, ◌+◌, ◌-◌, ◌^◌, ◌<◌, ◌≤◌, List, [], ◌∷◌, ◌++◌, length}
use Rattle.edit_history.specs.declared.history.Edit.{Edit}
use Rattle.edit_history.specs.declared.history.Entry.{Entry}
use Rattle.edit_history.specs.Edits.{HasKeys, edit_points, reply_to, after}
use Rattle.cell_store.specs.Buckets.{InHand, room_for}
use Rattle.cell_changes.specs.Changes.{IsChange}
use Rattle.cell_store.specs.Missing.{ArePointsHeld}
use Rattle.point_order.specs.Complex.{complex}
use Rattle.cell_store.specs.Ready.{AreHeld}
use Rattle.cell_store.specs.Shares.{Shows}
use Rattle.cell_store.specs.Touches.{IsTouched}
use Rattle.point_order.specs.Sets.{IsIn}
use Rattle.claim_table.specs.declared.hands.Hands.{Hands}
use Rattle.edit_plans.specs.declared.plan.Plan.{Plan}
use Rattle.grid_claims.specs.declared.refused.Refused.{Refused}
use Rattle.grid_claims.specs.declared.refused.Refused.TheVariants.{Spent, Busy, Memory}
use Rattle.claim_table.specs.declared.view.Act.{Act}
use Rattle.claim_table.specs.declared.view.Act.TheVariants.{Miss, Commit}
use Rattle.claim_table.specs.declared.view.View.{View}
use Rattle.claim_table.specs.Hands.{HasClaimed, releases_of}
use Rattle.claim_table.specs.Plays.{IsOthers, IsReady, entry_of}
use Rattle.claim_table.specs.Trails.{IsExact, AreAllTouched}
use Rattle.claim_rule.specs.Good.{StartsWith}
use Rattle.edit_history.specs.declared.history.Reply.{Reply}
use Rattle.edit_history.specs.Histories.{replay, IsLegal}

-- the step with which a try stops, after its claims
abbrev pub last_step : Refused → List Act
last_step Spent = []
last_step (Busy bucket word) = Miss bucket word ∷ []
last_step Memory = []

-- the word that was found is another's
abbrev pub HasOthersWord : View → Refused → Type 0
HasOthersWord v Spent = ⊥
HasOthersWord v (Busy bucket word) = IsOthers v word
HasOthersWord v Memory = Unit {0}

-- The try stopped, with some buckets in hand.
pub record HasStopped (old new : Hands) (why : Refused) : Type 0 where
  pub claimed : HasClaimed old new (last_step why)
  pub others : HasOthersWord old.place.me.0 why

-- it shows one of which this is the edit's reply
abbrev pub IsRightIn : InHand → Edit → Reply → Type 0
IsRightIn hold edit reply = (s : List ℕ) × Shows hold s × (reply ≡ reply_to s edit)

-- What an edit is to change is known, of every set that the hold shows, and all buckets of it are in hand.
pub record IsReadyPlan (v : View) (hold : InHand) (edit : Edit) (plan : Plan) : Type 0 where
  pub ready : IsReady v edit plan.reply
  pub key : HasKeys edit
  pub change : (s : List ℕ) → Shows hold s →
      IsChange (complex s) (complex (after s edit)) plan.gone.items plan.fresh.items
  pub gone : AreHeld hold plan.gone.items
  pub fresh : AreHeld hold plan.fresh.items
  pub mine : ArePointsHeld hold (edit_points edit)

-- there is room for the change
abbrev pub HasRoomFor : InHand → Edit → Plan → Type 0
HasRoomFor hold edit plan = hold.room ≡ room_for plan.gone.items plan.fresh.items edit

-- The edit was made after some history, and all buckets were given back.
pub record IsFinished (tag : ℕ) (edit : Edit) (reply : Reply) (number : ℕ) (old new : Hands) : Type 0 where
  pub later : old.place.me.0.seen ≤ number
  pub few : number < 2 ^ 32
  pub history : List Entry
  pub legal : IsLegal history
  pub knows : StartsWith history old.place.me.0.known
  pub count : length history ≡ number
  pub right : reply ≡ reply_to (replay history) edit
  pub touched : (b : ℕ) → IsTouched old.place.me.0.grid (replay history) edit b → IsIn b old.order.items
  pub exact : IsExact edit reply → AreAllTouched old.place.me.0.grid (replay history) edit old.order.items
  pub view : new.place.me.0 ≡ record old.place.me.0 {
    held = new.hold.places;
    left = old.place.me.0.left - 1;
    seen = number + 1;
    made = old.place.me.0.made ++ entry_of number old.place.me.0.first tag edit reply ∷ [];
    trail = old.place.me.0.trail ++ Commit number ∷ releases_of old.order.items;
  }
