-- What an edit changes, found by turns over a hold of buckets.
use Rattle.std.specs.Prelude.{◌≡◌, ℕ, List, IsSome}
use Rattle.point_order.specs.Complex.{complex}
use Rattle.point_order.specs.Sets.{IsIn, with_point}
use Rattle.edit_history.specs.declared.history.Edit.{Edit}
use Rattle.edit_history.specs.declared.history.Edit.TheVariants.{Add, Move, Take}
use Rattle.edit_history.specs.Edits.{HasKeys, after, reply_to}
use Rattle.hole_laws.specs.Edits.{IsNew}
use Rattle.bucket_grid.specs.Grids.{bucket_of}
use Rattle.cell_store.specs.Buckets.{InHand, bucket_at}
use Rattle.cell_changes.specs.Changes.{IsChange}
use Rattle.cell_store.specs.Meshes.{AreAmong}
use Rattle.cell_store.specs.Ready.{AreHeld}
use Rattle.cell_store.specs.Shares.{Shows}
use Rattle.cell_store.specs.Touches.{HoldTouched, IsExact, IsTouched}
use Rattle.cavity.specs.Turns.{NoneIsNeeded}
use Rattle.insertion.specs.Arrivals.{IsArrivalIn}
use Rattle.insertion.specs.Searches.{IsLacking}
use Rattle.edit_plans.specs.declared.plan.Landed.{Landed}
use Rattle.edit_plans.specs.declared.plan.Look.{Look}
use Rattle.edit_plans.specs.declared.plan.Look.TheVariants.{Turn, Beside}
use Rattle.edit_plans.specs.declared.plan.Plan.{Plan}
use Rattle.edit_plans.specs.declared.plan.Planner.{Planner}
use Rattle.edit_plans.specs.declared.plan.Planner.TheVariants.{Home, Comes, Goes, Lands, Leaves}
use Rattle.edit_plans.specs.declared.plan.PlanTurn.{PlanTurn}
use Rattle.edit_plans.specs.declared.plan.PlanTurn.TheVariants.{Done, Need}

-- The plan is what the edit changes in the set s: its reply, and exactly the cells that go and those that come.
pub record IsPlanFor (s : List ℕ) (edit : Edit) (plan : Plan) : Type 0 where
  pub reply : plan.reply ≡ reply_to s edit
  pub change : IsChange (complex s) (complex (after s edit)) plan.gone.items plan.fresh.items

-- It is; and the buckets of its cells are in hand, as is every bucket that the edit touches.
pub record IsPlanIn (hold : InHand) (s : List ℕ) (edit : Edit) (plan : Plan) : Type 0 where
  pub is : IsPlanFor s edit plan
  pub key : HasKeys edit
  pub gone : AreHeld hold plan.gone.items
  pub fresh : AreHeld hold plan.fresh.items
  pub touched : HoldTouched hold.grid s edit hold.places

-- the edit that a planner is for
abbrev pub edit_of : Planner → Edit
edit_of (Home edit) = edit
edit_of (Comes p arrival) = Add p
edit_of (Goes p) = Take p
edit_of (Lands a b arrival) = Move a b
edit_of (Leaves l) = Move l.from l.to

-- the bucket of the point is in hand
abbrev pub HoldsHome : InHand → ℕ → Type 0
HoldsHome hold p = IsSome (bucket_at hold.places (bucket_of hold.grid p))

-- The point that moves is there, its new place is free, and what the new place changes is known: exactly these cells go
-- and come.
pub record IsLandedFor (s : List ℕ) (l : Landed) : Type 0 where
  pub there : IsIn l.from s
  pub new : IsNew s l.to
  pub change : IsChange (complex s) (complex (with_point l.to s)) l.came.gone.items l.came.fresh.items

-- It is; and the buckets of both places and of the cells are in hand, and no other is needed for the new place.
pub record IsLandedIn (hold : InHand) (s : List ℕ) (l : Landed) : Type 0 where
  pub is : IsLandedFor s l
  pub home : HoldsHome hold l.from
  pub goal : HoldsHome hold l.to
  pub gone : AreHeld hold l.came.gone.items
  pub fresh : AreHeld hold l.came.fresh.items
  pub none : NoneIsNeeded hold s l.to

-- The planner stands right in the set s: of a point that comes the arrival does, and one that goes is there; the bucket
-- of either is in hand. So it is with both places of a point that moves.
abbrev pub IsPlannerIn : InHand → List ℕ → Planner → Type 0
IsPlannerIn hold s (Home edit) = Unit {0}
IsPlannerIn hold s (Comes p arrival) = HoldsHome hold p × IsArrivalIn hold s p arrival
IsPlannerIn hold s (Goes p) = HoldsHome hold p × IsIn p s
IsPlannerIn hold s (Lands a b arrival) = HoldsHome hold a × HoldsHome hold b × IsIn a s × IsArrivalIn hold s b arrival
IsPlannerIn hold s (Leaves l) = IsLandedIn hold s l

-- the hold shows a set in which it does
abbrev pub ShowsPlanner : InHand → Planner → Type 0
ShowsPlanner hold planner = (s : List ℕ) × Shows hold s × IsPlannerIn hold s planner

-- Bucket b is lacking, and touched where the edit is exact; with it the next planner goes on.
pub record IsAsked (hold : InHand) (s : List ℕ) (edit : Edit) (b : ℕ) (next : Planner) : Type 0 where
  pub lacking : IsLacking hold b
  pub exact : IsExact edit (reply_to s edit) → IsTouched hold.grid s edit b
  pub same : edit_of next ≡ edit
  pub stands : IsPlannerIn hold s next

-- the plan, or a bucket that is asked for
abbrev pub PlanGives : InHand → List ℕ → Edit → PlanTurn → Type 0
PlanGives hold s edit (Done plan) = IsPlanIn hold s edit plan
PlanGives hold s edit (Need b next) = IsAsked hold s edit b next

-- the answer is right for every set that the hold shows
abbrev pub PlanAnswers : InHand → Planner → PlanTurn → Type 0
PlanAnswers hold planner turn =
    (s : List ℕ) → Shows hold s → IsPlannerIn hold s planner → PlanGives hold s (edit_of planner) turn

-- A look over the hold as it is comes to a turn; or to what the new place of the move changes, where the rest is then
-- to be found with it there.
abbrev pub LookGives : InHand → List ℕ → Edit → Look → Type 0
LookGives hold s edit (Turn turn) = PlanGives hold s edit turn
LookGives hold s edit (Beside l) = (edit ≡ Move l.from l.to) × IsLandedIn hold s l

-- it is right for every set that the hold shows
abbrev pub LookAnswers : InHand → Planner → Look → Type 0
LookAnswers hold planner look =
    (s : List ℕ) → Shows hold s → IsPlannerIn hold s planner → LookGives hold s (edit_of planner) look

-- with more buckets in hand a planner stands right
abbrev pub PlannerStays : Type 0
PlannerStays =
    (few many : InHand) (s : List ℕ) (planner : Planner) → AreAmong few many → IsPlannerIn few s planner →
    IsPlannerIn many s planner
