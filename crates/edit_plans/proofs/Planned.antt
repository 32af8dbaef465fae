-- Plans, by what arrivals and refills answer.
use Rattle.std.specs.Prelude.{◌≡◌, ℕ, true, false, List, [], length, Option, None, Some, IsSome}
use Rattle.std.proofs.Common.{refl, sym, ◌∙◌, ap, subst, inl, inr}
use Rattle.list_laws.proofs.Cited.{among_from, among_true, false_if, is_there, none_or, not_among, some_of}
use Rattle.point_order.specs.declared.cell.Cell.{Cell}
use Rattle.point_order.specs.Complex.{complex}
use Rattle.point_order.specs.Coordinates.{IsKey}
use Rattle.point_order.specs.Sets.{IsIn, is_among}
use Rattle.edit_history.specs.declared.history.Edit.{Edit}
use Rattle.edit_history.specs.declared.history.Edit.TheVariants.{Add, Move, Take}
use Rattle.edit_history.specs.declared.history.Reply.{Reply}
use Rattle.edit_history.specs.declared.history.Reply.TheVariants.{Inserted, Duplicate, Removed, Missing, Flat}
use Rattle.edit_history.specs.Edits.{HasKeys, point_of, reply_to, changed, after}
use Rattle.edit_history.proofs.Cited.{duplicate, flat, inserts, missing, reply_there}
use Rattle.hole_laws.specs.Edits.{IsNew}
use Rattle.bucket_grid.specs.Grids.{bucket_of}
use Rattle.cell_store.specs.Buckets.{BucketContent, InHand, bucket_at}
use Rattle.cell_changes.specs.Changes.{IsChange}
use Rattle.cell_store.specs.Meshes.{AreAmong}
use Rattle.cell_store.specs.Ready.{AreHeld}
use Rattle.cell_store.specs.Shares.{Shows}
use Rattle.cell_store.specs.Touches.{HoldTouched, IsTouched}
use Rattle.cell_store.proofs.Cited.{solid_set}
use Rattle.cavity.specs.declared.fill_hole.Fresh.{Fresh}
use Rattle.cavity.specs.Turns as dig
use Rattle.cavity.proofs.Cited.{fresh_are_held}
use Rattle.insertion.specs.Arrivals.{IsArrivalIn, ArrivalGives}
use Rattle.insertion.specs.declared.arrival.Arrival.{Arrival}
use Rattle.insertion.specs.declared.arrival.Arrival.TheVariants.{Seeks, Digs}
use Rattle.insertion.specs.declared.arrival.ArrivalTurn.{ArrivalTurn}
use Rattle.insertion.specs.declared.arrival.ArrivalTurn.TheVariants.{Done as Comes, Need as Lacks}
use Rattle.insertion.proofs.Cited.{arrival_stays}
use Rattle.vertex_removal.specs.Turns as refill
use Rattle.vertex_removal.specs.declared.refill.RefillTurn.{RefillTurn}
use Rattle.vertex_removal.specs.declared.refill.RefillTurn.TheVariants as turn
use Rattle.edit_plans.specs.declared.plan.Plan.{Plan}
use Rattle.edit_plans.specs.declared.plan.Planner.{Planner}
use Rattle.edit_plans.specs.declared.plan.Planner.TheVariants.{Home, Comes as Coming, Goes as Going, Lands as Landing}
use Rattle.edit_plans.specs.declared.plan.Planner.TheVariants.{Leaves as Leaving}
use Rattle.edit_plans.specs.Leaving.{IsQuiet}
use Rattle.edit_plans.specs.Plans.{IsPlanFor, IsPlanIn, IsPlannerIn, IsAsked, HoldsHome, PlannerStays}

-- a bucket that is not away is there
pub there_or : (o : Option BucketContent) → (o ≡ None → ⊥) → IsSome o
there_or None f = absurd (f refl)
there_or (Some c) f = refl

-- the bucket of a point by its number
pub here_at : (hold : InHand) (p e b : ℕ) → HoldsHome hold p → e ≡ p → b ≡ bucket_of hold.grid e →
    IsSome (bucket_at hold.places b)
here_at hold p e b home same number = subst (λ (x : ℕ). IsSome (bucket_at hold.places x))
    (sym (number ∙ ap (bucket_of hold.grid) same)) home

-- ---- an edit that changes no point

-- where the set stays, nothing of its complex changes
quiet_change : (s : List ℕ) (edit : Edit) → after s edit ≡ s → IsChange (complex s) (complex (after s edit)) [] []
quiet_change s edit same = subst (λ (l : List ℕ). IsChange (complex s) (complex l) [] []) (sym same) (record {
  went = λ c i. absurd i;
  all_gone = λ c i n. absurd (n i);
  came = λ c i. absurd i;
  all_fresh = λ c i n. absurd (n i);
})

-- so the plan of nothing gone and nothing fresh is that of the edit
pub quiet_for : (s : List ℕ) (edit : Edit) (plan : Plan) (reply : Reply) → IsQuiet plan reply →
    reply_to s edit ≡ reply → after s edit ≡ s → IsPlanFor s edit plan
quiet_for s edit plan reply q right same = record {
  reply = q.0 ∙ sym right;
  change = subst (λ (t : List Cell × List Cell). IsChange (complex s) (complex (after s edit)) t.0 t.1)
      (λ i. (sym q.1 i, sym q.2 i)) (quiet_change s edit same);
}

-- and it is ready where the touched buckets are in hand
pub quiet_plan : (hold : InHand) (s : List ℕ) (edit : Edit) (plan : Plan) (reply : Reply) → IsQuiet plan reply →
    HasKeys edit → reply_to s edit ≡ reply → after s edit ≡ s → HoldTouched hold.grid s edit hold.places →
    IsPlanIn hold s edit plan
quiet_plan hold s edit plan reply q key right same touched = record {
  is = quiet_for s edit plan reply q right same;
  key = key;
  gone = λ c i. absurd (subst (λ (l : List Cell). IsIn c l) q.1 i);
  fresh = λ c i. absurd (subst (λ (l : List Cell). IsIn c l) q.2 i);
  touched = touched;
}

-- a point to be added that is there
pub plan_duplicate : (hold : InHand) (s : List ℕ) (p : ℕ) (plan : Plan) → IsQuiet plan Duplicate → IsKey p →
    HoldsHome hold p → is_among p s ≡ true → IsPlanIn hold s (Add p) plan
plan_duplicate hold s p plan q key home there =
    quiet_plan hold s (Add p) plan Duplicate q key (duplicate s p there) (ap (changed s p) (duplicate s p there))
    (λ b t. elim t.reached [
      | inl e ↦ here_at hold p t.point b home e t.number
      | inr r ↦ absurd (r.0 (among_from p s there))
    ])

-- a point to be taken that is not
pub plan_missing : (hold : InHand) (s : List ℕ) (p : ℕ) (plan : Plan) → IsQuiet plan Missing → IsKey p →
    HoldsHome hold p → is_among p s ≡ false → IsPlanIn hold s (Take p) plan
plan_missing hold s p plan q key home lacks =
    quiet_plan hold s (Take p) plan Missing q key (missing s p lacks) (ap (changed s p) (missing s p lacks))
    (λ b t. elim t.reached [
      | inl e ↦ here_at hold p t.point b home e t.number
      | inr r ↦ absurd (not_among s p lacks r.0)
    ])

-- ---- a point that comes

-- the point of an arrival is new to the set
pub new_in : (hold : InHand) (s : List ℕ) (p : ℕ) (arrival : Arrival) → IsArrivalIn hold s p arrival → IsNew s p
new_in hold s p (Seeks search) k = k.0
new_in hold s p (Digs d) k = subst (λ (x : ℕ). IsNew s x) k.0 k.1.new

-- so an add of it is Inserted
inserted : (s : List ℕ) (p : ℕ) → IsNew s p → reply_to s (Add p) ≡ Inserted
inserted s p new = inserts s p (false_if (is_among p s) (λ t. new.absent (among_from p s t)))

-- every bucket that the addition touches is in hand
comes_touched : (hold : InHand) (s : List ℕ) (p : ℕ) → HoldsHome hold p → dig.NoneIsNeeded hold s p →
    HoldTouched hold.grid s (Add p) hold.places
comes_touched hold s p home none b t = elim t.reached [
  | inl e ↦ here_at hold p t.point b home e t.number
  | inr r ↦ there_or (bucket_at hold.places b) (λ lacks. none b record
      { absent = lacks; cell = r.1.q; goes = r.1.goes; point = t.point; has = r.1.has; number = t.number })
]

-- once the arrival's change is known it is the plan of the add
pub plan_inserted : (hold : InHand) (s : List ℕ) (p : ℕ) (arrival : Arrival) (t : ArrivalTurn) (f : Fresh) →
    Shows hold s → IsPlannerIn hold s (Coming p arrival) → t ≡ Comes f → ArrivalGives hold s p t →
    IsPlanIn hold s (Add p) (record { reply = Inserted; gone = f.gone; fresh = f.fresh })
plan_inserted hold s p arrival t f sh k is gives =
    let g = subst (λ (x : ArrivalTurn). ArrivalGives hold s p x) is gives in
    let new = new_in hold s p arrival k.1 in
    let right = inserted s p new in
    record {
      is = record {
        reply = sym right;
        change = subst (λ (l : List ℕ). IsChange (complex s) (complex l) f.gone.items f.fresh.items)
            (sym (ap (changed s p) right)) g.1.change;
      };
      key = new.key;
      gone = g.2;
      fresh = fresh_are_held s p f.gone.items f.fresh.items hold (solid_set hold s sh) new g.1 g.2 k.0;
      touched = comes_touched hold s p k.0 g.0;
    }

-- it is asked for a bucket; the addition of a new point is not exact
pub comes_asks : (hold : InHand) (s : List ℕ) (p b : ℕ) (arrival next : Arrival) (t : ArrivalTurn) →
    IsPlannerIn hold s (Coming p arrival) → t ≡ Lacks b next → ArrivalGives hold s p t →
    IsAsked hold s (Add p) b (Coming p next)
comes_asks hold s p b arrival next t k is gives =
    let g = subst (λ (x : ArrivalTurn). ArrivalGives hold s p x) is gives in
    let right = inserted s p (new_in hold s p arrival k.1) in
    record {
      lacking = g.0;
      exact = λ x. absurd (let e : Inserted ≡ Duplicate = sym right ∙ x in cc e);
      same = refl;
      stands = (k.0, g.1);
    }

-- ---- a point that goes

-- every bucket that the removal touches is in hand
goes_touched : (hold : InHand) (s : List ℕ) (p : ℕ) → HoldsHome hold p → refill.NoneIsNeededAround hold s p →
    HoldTouched hold.grid s (Take p) hold.places
goes_touched hold s p home none b t = elim t.reached [
  | inl e ↦ here_at hold p t.point b home e t.number
  | inr r ↦ there_or (bucket_at hold.places b) (λ lacks. none b record {
    absent = lacks;
    cell = r.1.q;
    listed = r.1.listed;
    has_v = r.1.has_p;
    point = t.point;
    has = r.1.has_e;
    number =
        t.number;
  })
]

-- once the refill's change is known it is the plan of the take
pub plan_removed : (hold : InHand) (s : List ℕ) (p v : ℕ) (t : RefillTurn) (f : Fresh) → Shows hold s →
    IsPlannerIn hold s (Going p) → v ≡ p → t ≡ turn.Done f → refill.RefillGives hold s v t →
    IsPlanIn hold s (Take p) (record { reply = Removed; gone = f.gone; fresh = f.fresh })
plan_removed hold s p v t f sh k same is gives =
    let g = subst (λ (x : ℕ × RefillTurn). refill.RefillGives hold s x.0 x.1) (λ i. (same i, is i)) gives in
    let right : reply_to s (Take p) ≡ Removed = reply_there s p (among_true p s k.1) g.1.solid in
    record {
      is = record {
        reply = sym right;
        change = subst (λ (l : List ℕ). IsChange (complex s) (complex l) f.gone.items f.fresh.items)
            (sym (ap (changed s p) right)) g.1.change;
      };
      key = sh.keys.below p k.1;
      gone = g.2;
      fresh = g.3;
      touched = goes_touched hold s p k.0 g.0;
    }

-- a refill that is Flat is a plan of nothing, with that reply
pub plan_flat : (hold : InHand) (s : List ℕ) (p v : ℕ) (t : RefillTurn) (plan : Plan) → Shows hold s →
    IsPlannerIn hold s (Going p) → v ≡ p → IsQuiet plan Flat → t ≡ turn.Flat → refill.RefillGives hold s v t →
    IsPlanIn hold s (Take p) plan
plan_flat hold s p v t plan sh k same q is gives =
    let g = subst (λ (x : ℕ × RefillTurn). refill.RefillGives hold s x.0 x.1) (λ i. (same i, is i)) gives in
    quiet_plan hold s (Take p) plan Flat q (sh.keys.below p k.1) (flat s p (among_true p s k.1) g.1)
    (ap (changed s p) (flat s p (among_true p s k.1) g.1)) (goes_touched hold s p k.0 g.0)

-- ---- with more buckets in hand

-- the bucket of the point is in hand still
home_still : (few many : InHand) (p : ℕ) → AreAmong few many → HoldsHome few p → HoldsHome many p
home_still few many p a h =
    let c = some_of (bucket_at few.places (bucket_of few.grid p)) h in
    subst (λ (g : ℕ). IsSome (bucket_at many.places (bucket_of g p))) a.grid
    (is_there (bucket_at many.places (bucket_of few.grid p)) c.0 (a.buckets (bucket_of few.grid p) c.0 c.1))

-- cells that are held are held still
cells_still : (few many : InHand) (l : List Cell) → AreAmong few many → AreHeld few l → AreHeld many l
cells_still few many l a h c i p j = home_still few many p a (h c i p j)

-- a bucket that is not there was not before
lacks_still : (few many : InHand) (b : ℕ) → AreAmong few many → bucket_at many.places b ≡ None →
    bucket_at few.places b ≡ None
lacks_still few many b a none = none_or (bucket_at few.places b) (λ h.
    let c = some_of (bucket_at few.places b) h in
    let there = a.buckets b c.0 c.1 in
    cc (there, none))

-- and where no bucket was needed none is
none_still : (few many : InHand) (s : List ℕ) (p : ℕ) → AreAmong few many → dig.NoneIsNeeded few s p →
    dig.NoneIsNeeded many s p
none_still few many s p a none b n = none b (record {
  absent = lacks_still few many b a n.absent;
  cell = n.cell;
  goes = n.goes;
  point = n.point;
  has = n.has;
  number = n.number ∙ ap (λ (g : ℕ). bucket_of g n.point) (sym a.grid);
})

-- so a planner that stands right does so with more buckets in hand
pub planner_stays : PlannerStays
planner_stays few many s (Home edit) a k = tt
planner_stays few many s (Coming p arrival) a k = (
  home_still few many p a k.0,
  arrival_stays few many s p arrival a k.1,
)
planner_stays few many s (Going p) a k = (home_still few many p a k.0, k.1)
planner_stays few many s (Landing p q arrival) a k = (
  home_still few many p a k.0,
  home_still few many q a k.1,
  k.2,
  arrival_stays few many s q arrival a k.3,
)
planner_stays few many s (Leaving l) a k = record {
  is = k.is;
  home = home_still few many l.from a k.home;
  goal = home_still few many l.to a k.goal;
  gone = cells_still few many l.came.gone.items a k.gone;
  fresh = cells_still few many l.came.fresh.items a k.fresh;
  none = none_still few many s l.to a k.none;
}

-- a planner that begins
pub home_begins : (hold : InHand) (s : List ℕ) (edit : Edit) (planner : Planner) → planner ≡ Home edit →
    IsPlannerIn hold s planner
home_begins hold s edit planner is = subst (λ (x : Planner). IsPlannerIn hold s x) (sym is) tt
