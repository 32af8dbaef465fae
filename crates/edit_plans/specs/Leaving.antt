-- The point of a move that leaves its place, looked for while the new place is there.
use Rattle.std.specs.Prelude.{◌≡◌, ℕ, List, length, []}
use Rattle.point_order.specs.declared.cell.Cell.{Cell}
use Rattle.point_order.specs.Sets.{with_point}
use Rattle.edit_history.specs.declared.history.Reply.{Reply}
use Rattle.edit_history.specs.declared.history.Reply.TheVariants.{Flat, Moved}
use Rattle.cell_store.specs.Between.{IsEntered}
use Rattle.cell_store.specs.Buckets.{InHand}
use Rattle.cell_changes.specs.Changes.{IsChange}
use Rattle.cell_store.specs.Meshes.{AllInHand}
use Rattle.cell_store.specs.Shares.{Shows}
use Rattle.cavity.specs.Both.{AreOfBoth}
use Rattle.cavity.specs.declared.fill_hole.Fresh.{Fresh}
use Rattle.vertex_removal.specs.Turns.{RefillAsksBelow, AsksNothing, RefillGives, ShowsWithPoint}
use Rattle.vertex_removal.specs.declared.refill.RefillTurn.{RefillTurn}
use Rattle.vertex_removal.specs.declared.refill.RefillTurn.TheVariants.{Done as Fills, Flat as LiesFlat, Need as Lacks}
use Rattle.edit_plans.specs.declared.plan.Landed.{Landed}
use Rattle.edit_plans.specs.declared.plan.Plan.{Plan}
use Rattle.edit_plans.specs.declared.plan.Planner.TheVariants.{Leaves}
use Rattle.edit_plans.specs.declared.plan.PlanTurn.{PlanTurn}
use Rattle.edit_plans.specs.declared.plan.PlanTurn.TheVariants.{Done, Need}
use Rattle.edit_plans.specs.Plans.{HoldsHome, IsLandedIn}

-- a plan with this reply that changes no cell
abbrev pub IsQuiet : Plan → Reply → Type 0
IsQuiet plan reply = (plan.reply ≡ reply) × (plan.gone.items ≡ []) × (plan.fresh.items ≡ [])

-- The plan of a move that is made has the cells of two changes, one after the other, but none that the one brings and
-- the other takes away.
pub record AreBoth (came left : Fresh) (plan : Plan) : Type 0 where
  pub reply : plan.reply ≡ Moved
  pub gone : AreOfBoth came.gone.items left.fresh.items left.gone.items came.fresh.items plan.gone.items
  pub fresh : AreOfBoth came.fresh.items left.gone.items left.fresh.items came.gone.items plan.fresh.items
  pub change : (s t u : List Cell) → IsChange s t came.gone.items came.fresh.items →
      IsChange t u left.gone.items left.fresh.items → IsChange s u plan.gone.items plan.fresh.items

-- the hold shows a set with v, whose bucket is in hand
abbrev pub CanLeave : InHand → ℕ → Type 0
CanLeave hold v = ShowsWithPoint hold v × HoldsHome hold v

-- what a turn of the refill of v answers for every set that the hold shows
pub record RefillAnswers (hold : InHand) (v : ℕ) (found : RefillTurn) : Type 0 where
  pub gives : (s : List ℕ) → Shows hold s → RefillGives hold s v found
  pub below : RefillAsksBelow (length hold.places) found
  pub all : AllInHand hold → AsksNothing found

-- what it answers in the hold with the new place, for every set in which that is the place of the move
pub record AnswersBeside (hold : InHand) (l : Landed) (found : RefillTurn) : Type 0 where
  pub mid : InHand
  pub entered : IsEntered l.came.gone.items l.came.fresh.items l.to hold mid
  pub gives : (s : List ℕ) → Shows hold s → IsLandedIn hold s l → RefillGives mid (with_point l.to s) l.from found
  pub below : RefillAsksBelow (length mid.places) found

-- what the move comes to by it: the plan of both changes, one that changes nothing, or the bucket that is asked for
abbrev pub IsMovedBy : Landed → RefillTurn → PlanTurn → Type 0
IsMovedBy l (Fills f) (Done plan) = AreBoth l.came f plan
IsMovedBy l (Fills f) (Need b next) = ⊥
IsMovedBy l LiesFlat (Done plan) = IsQuiet plan Flat
IsMovedBy l LiesFlat (Need b next) = ⊥
IsMovedBy l (Lacks b) (Done plan) = ⊥
IsMovedBy l (Lacks b) (Need c next) = (c ≡ b) × (next ≡ Leaves l)
