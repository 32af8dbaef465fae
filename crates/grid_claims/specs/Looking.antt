-- The loop of claims: what it keeps.
use Rattle.std.specs.Prelude.{◌≡◌, ℕ, List}
use Rattle.atomic_table.specs.Seated.{TableId}
use Rattle.edit_history.specs.declared.history.Edit.{Edit}
use Rattle.edit_history.specs.Edits.{reply_to}
use Rattle.cell_store.specs.Buckets.{InHand}
use Rattle.cell_store.specs.Shares.{Shows}
use Rattle.cell_store.specs.Touches.{HoldNoOther, IsExact}
use Rattle.edit_plans.specs.Plans.{IsPlannerIn, edit_of}
use Rattle.edit_plans.specs.declared.plan.Planner.{Planner}
use Rattle.claim_table.specs.declared.hands.Hands.{Hands}
use Rattle.claim_table.specs.Hands.{HasClaimedMore}

-- where the edit is exact, every bucket in hand is one that it touches
abbrev pub HoldsExact : InHand → Edit → Type 0
HoldsExact hold edit =
    (s : List ℕ) → Shows hold s → IsExact edit (reply_to s edit) → HoldNoOther hold.grid s edit hold.places

-- The claims of an edit: its planner stands right in each set that the hold shows.
pub record IsPlanning (id : TableId) (buckets : ℕ) (edit : Edit) (old now : Hands) (planner : Planner) : Type 0 where
  pub more : HasClaimedMore id buckets old now
  pub same : edit_of planner ≡ edit
  pub stands : (s : List ℕ) → Shows now.hold s → IsPlannerIn now.hold s planner
  pub exact : HoldsExact now.hold edit
