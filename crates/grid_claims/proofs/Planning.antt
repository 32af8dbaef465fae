-- The claims of an edit, and its plan.
use Rattle.std.specs.Prelude.{◌≡◌, ℕ, List, [], ◌∷◌, ◌++◌, Option, None, Some, IsSome, Result, Ok, Err, IfErr}
use Rattle.std.specs.Result.{IsErr, IsErrAnd}
use Rattle.std.proofs.Common.{refl, sym, ap, subst, inl, inr, arith}
use Rattle.std.proofs.lemmas.List.{append-nil}
use Rattle.atomic_table.specs.Seated.{TableId}
use Rattle.list_laws.proofs.Cited.{in_snoc, some_of}
use Rattle.point_order.specs.Coordinates.{IsKey}
use Rattle.point_order.specs.Coordinates as X3
use Rattle.point_order.specs.Orientation as X1
use Rattle.point_order.specs.Sets.{IsIn}
use Rattle.edit_history.specs.declared.history.Edit.{Edit}
use Rattle.edit_history.specs.declared.history.Reply.{Reply}
use Rattle.edit_history.specs.Edits.{edit_points}
use Rattle.bucket_grid.specs.Grids.{bucket_of}
use Rattle.cell_store.specs.Buckets.{BucketContent, InHand, Room, bucket_at}
use Rattle.cell_store.specs.Missing.{ArePointsHeld}
use Rattle.cell_store.proofs.TouchLaws.{points_touched}
use Rattle.cell_store.specs.Shares.{Shows}
use Rattle.cell_store.specs.Touches.{HoldNoOther, HoldTouched, IsExact, IsTouched}
use Rattle.claim_rule.specs.Boards.{in_hand_of}
use Rattle.edit_plans.specs.Plans.{PlanAnswers, PlanGives, ShowsPlanner, edit_of}
use Rattle.edit_plans.specs.declared.plan.Plan.{Plan}
use Rattle.edit_plans.specs.declared.plan.Planner.{Planner}
use Rattle.edit_plans.specs.declared.plan.Planner.TheVariants.{Home}
use Rattle.edit_plans.specs.declared.plan.PlanTurn.{PlanTurn}
use Rattle.edit_plans.specs.declared.plan.PlanTurn.TheVariants.{Done, Need}
use Rattle.edit_plans.proofs.Cited.{home_begins, planner_stays}
use Rattle.insertion.specs.Searches.{IsLacking}
use Rattle.claim_table.specs.declared.hands.Hands.{Hands}
use Rattle.claim_table.specs.declared.view.View.{View}
use Rattle.claim_table.specs.Hands.{AreHands, ShowsOne, HasClaimedMore}
use Rattle.grid_claims.specs.Claiming.{HasStopped, IsReadyPlan}
use Rattle.grid_claims.specs.declared.refused.Refused.{Refused}
use Rattle.grid_claims.specs.declared.refused.Refused.TheVariants.{Memory}
use Rattle.grid_claims.specs.Looking.{IsPlanning}
use Rattle.claim_table.specs.Plays.{HandShows}
use Rattle.claim_table.proofs.Cited.{hands_with_room, more_none, more_then, shown}
use Rattle.grid_claims.proofs.Stopped.{out_of_memory, stopped_then}

-- ---- hands that hold nothing

-- four points that are independent
abbrev four : List ℕ
four = 0 ∷ 1 ∷ 16384 ∷ 268435456 ∷ []

-- the four are keys
four_below : (p : ℕ) → IsIn p four → IsKey p
four_below p i = elim i [
  | inl e ↦ omega (arith, e)
  | inr i ↦ elim i [
    | inl e ↦ omega (arith, e)
    | inr i ↦ elim i [ inl e ↦ omega (arith, e) | inr i ↦ elim i [ inl e ↦ omega (arith, e) | inr none ↦ absurd none ] ]
  ]
]

-- what holds nothing shows every solid set
none_shows : (hold : InHand) → ((b : ℕ) → bucket_at hold.places b ≡ None) → ShowsOne hold
unfolding X1.orientation X1.triple X1.x_from X3.x_of X1.minor X1.y_from X3.y_of X1.z_from X3.z_of
none_shows hold none = (
  four,
  record {
    ascending = (omega arith, (omega arith, (omega arith, (tt, tt))));
    keys = record { below = four_below };
    solid = refl;
    sights = λ b c e. absurd (let n = none b in cc (n, e));
  },
)

-- hands without an order hold nothing
nothing_held : (id : TableId) (n : ℕ) (w : Hands) → AreHands id n w → w.order.items ≡ [] → (b : ℕ) →
    bucket_at w.hold.places b ≡ None
nothing_held id n w a none b =
    by (bucket_at w.hold.places b) (λ s. subst (λ (l : List ℕ). IsIn b l) none ((a.carries.holds b).0 s))
  where
    by : (o : Option BucketContent) → (IsSome o → ⊥) → o ≡ None
    by None f = refl
    by (Some c) f = absurd (f refl)

-- ---- a turn, after which the hold is as before but for its room

-- the hands with this hold
abbrev pub hands_with : Hands → InHand → Hands
hands_with w hold = record { place = w.place; hold = hold; order = w.order; first = w.first }

-- where a turn made room, as much is in hand as before
pub turned : (id : TableId) (n : ℕ) (w : Hands) (hold : InHand) (r : Room) → AreHands id n w → ShowsOne w.hold →
    hold ≡ record w.hold { room = r } → HasClaimedMore id n w (hands_with w hold)
turned id n w hold r a one e = subst (λ (h : InHand). HasClaimedMore id n w (hands_with w h)) (sym e) (record {
  hands = hands_with_room id n w (record w.hold { room = r }) r a refl;
  claimed = record {
    more = [];
    order = sym (append-nil w.order.items);
    view = λ i. record w.place.me.0 { held = a.carries.places_are i; trail = sym (append-nil w.place.me.0.trail) i };
  };
  among = record { grid = refl; buckets = λ b c q. q };
  one = (
    one.0,
    record { ascending = one.1.ascending; keys = one.1.keys; solid = one.1.solid; sights = one.1.sights },
  );
})

-- ---- the claims

module _ (id : TableId) (n : ℕ) (edit : Edit) (old now : Hands) where
  -- before the first claim the planner is at the edit's own buckets
  pub planning_none : (planner : Planner) → AreHands id n old → old.order.items ≡ [] → planner ≡ Home edit →
      IsPlanning id n edit old old planner
  planning_none planner a none is =
      let nothing = nothing_held id n old a none in
      record {
        more = more_none id n old a (none_shows old.hold nothing);
        same = ap edit_of is;
        stands = λ s sh. home_begins old.hold s edit planner is;
        exact = λ s sh x b held. absurd
            (let e = (some_of (bucket_at old.hold.places b) held).1 in
            let m = nothing b in
            cc (e, m));
      }

  -- what is in hand shows a set for which the planner stands
  pub planning_shows : (planner : Planner) → IsPlanning id n edit old now planner → ShowsPlanner now.hold planner
  planning_shows planner i = (i.more.one.0, i.more.one.1, i.stands i.more.one.0 i.more.one.1)

  -- what a turn gives in each set that the hold shows
  turns : (planner : Planner) (turn turn' : PlanTurn) → IsPlanning id n edit old now planner → turn ≡ turn' →
      PlanAnswers now.hold planner turn → (s : List ℕ) → Shows now.hold s → PlanGives now.hold s edit turn'
  turns planner turn turn' i is gives s sh =
      subst (λ (t : Edit × PlanTurn). PlanGives now.hold s t.0 t.1) (λ j. (i.same j, is j)) (gives s sh (i.stands s sh))

  -- a bucket that is asked for is one of the hold, and is not in hand
  pub planning_lacks : (planner next : Planner) (b : ℕ) (turn : PlanTurn) → IsPlanning id n edit old now planner →
      turn ≡ Need b next → PlanAnswers now.hold planner turn → IsLacking now.hold b
  planning_lacks planner next b turn i is gives =
      (turns planner turn (Need b next) i is gives i.more.one.0 i.more.one.1).lacking

  -- it came
  pub planning_on : (u : Hands) (planner next : Planner) (b : ℕ) (turn : PlanTurn) →
      IsPlanning id n edit old now planner → turn ≡ Need b next → PlanAnswers now.hold planner turn →
      HasClaimedMore id n now u → u.order.items ≡ now.order.items ++ b ∷ [] → IsPlanning id n edit old u next
  planning_on u planner next b turn i is gives m order =
      let asked = turns planner turn (Need b next) i is gives in
      let before : (s : List ℕ) → Shows u.hold s → Shows now.hold s = λ s sh. shown now.hold u.hold s m.among sh in
      record {
        more = more_then id n old now u i.more m;
        same = (asked i.more.one.0 i.more.one.1).same;
        stands = λ s sh. planner_stays now.hold u.hold s next m.among (asked s (before s sh)).stands;
        exact = λ s sh x c held. subst (λ (g : ℕ). IsTouched g s edit c) m.among.grid
            (elim (in_snoc now.order.items b c
            (subst (λ (l : List ℕ). IsIn c l) order ((m.hands.carries.holds c).0 held))) [
              | inl j ↦ i.exact s (before s sh) x c ((i.more.hands.carries.holds c).1 j)
              | inr e ↦ subst (λ (y : ℕ). IsTouched now.hold.grid s edit y) e ((asked s (before s sh)).exact x)
            ]);
      }

  -- ---- the plan

  -- what the pass holds, as a hold
  as_hold : AreHands id n now → (s : List ℕ) → HandShows now.place.me.0 s → Shows now.hold s
  as_hold a s st =
      let r : Shows (in_hand_of now.hold.grid now.hold.places) s =
      subst (λ (t : ℕ × List (Option BucketContent)). Shows (in_hand_of t.0 t.1) s)
      (λ i. (sym a.grid i, a.carries.places_are i)) st in
      record { ascending = r.ascending; keys = r.keys; solid = r.solid; sights = r.sights }

  -- where the turn is done its plan is ready: what is to change is known, and is in hand
  pub planned : (planner : Planner) (plan : Plan) (turn : PlanTurn) → IsPlanning id n edit old now planner →
      turn ≡ Done plan → PlanAnswers now.hold planner turn → IsReadyPlan now.place.me.0 now.hold edit plan
  planned planner plan turn i is gives =
      let p = turns planner turn (Done plan) i is gives in
      let a = i.more.hands in
      let one = p i.more.one.0 i.more.one.1 in
      let have : (s : List ℕ) → HandShows now.place.me.0 s → Shows now.hold s = as_hold a in
      let held : ArePointsHeld now.hold (edit_points edit) =
      λ q j. one.touched (bucket_of now.hold.grid q) (points_touched now.hold.grid i.more.one.0 edit q j) in
      record {
        ready = record {
          right = λ s st. (p s (have s st)).is.reply;
          touched = λ s st. subst (λ (t : ℕ × List (Option BucketContent)). HoldTouched t.0 s edit t.1)
              (λ j. (a.grid j, sym a.carries.places_are j)) (p s (have s st)).touched;
          exact = λ x s st. subst (λ (t : ℕ × List (Option BucketContent)). HoldNoOther t.0 s edit t.1)
              (λ j. (a.grid j, sym a.carries.places_are j))
              (i.exact s (have s st) (subst (λ (r : Reply). IsExact edit r) (p s (have s st)).is.reply x));
        };
        key = one.key;
        change = λ s sh. (p s sh).is.change;
        gone = one.gone;
        fresh = one.fresh;
        mine = held;
      }

-- the same hold with room
pub plan_with_room : (v : View) (hold new : InHand) (r : Room) (edit : Edit) (plan : Plan) →
    IsReadyPlan v hold edit plan → new ≡ record hold { room = r } → IsReadyPlan v new edit plan
plan_with_room v hold new r edit plan k e = subst (λ (x : InHand). IsReadyPlan v x edit plan) (sym e) (record {
  ready = k.ready;
  key = k.key;
  change = λ s st. k.change s
      (record { ascending = st.ascending; keys = st.keys; solid = st.solid; sights = st.sights });
  gone = k.gone;
  fresh = k.fresh;
  mine = k.mine;
})

-- ---- after a turn

module _ (id : TableId) (n : ℕ) (edit : Edit) (old now : Hands) (hold : InHand) (r : Room) where
  -- the turn found the plan
  pub planned_after : (planner : Planner) (plan : Plan) (turn : PlanTurn) → IsPlanning id n edit old now planner →
      turn ≡ Done plan → PlanAnswers now.hold planner turn → hold ≡ record now.hold { room = r } →
      IsReadyPlan now.place.me.0 hold edit plan
  planned_after planner plan turn i is gives e =
      plan_with_room now.place.me.0 now.hold hold r edit plan (planned id n edit old now planner plan turn i is gives) e

  -- all claims so far
  pub more_after : (planner : Planner) → IsPlanning id n edit old now planner → hold ≡ record now.hold { room = r } →
      HasClaimedMore id n old (hands_with now hold)
  more_after planner i e = more_then id n old now (hands_with now hold) i.more
      (turned id n now hold r i.more.hands i.more.one e)

  -- a bucket that is asked for is one of the hold, and is not in hand
  pub lacks_after : (planner next : Planner) (b : ℕ) (turn : PlanTurn) → IsPlanning id n edit old now planner →
      turn ≡ Need b next → PlanAnswers now.hold planner turn → hold ≡ record now.hold { room = r } → IsLacking hold b
  lacks_after planner next b turn i is gives e =
      let k = planning_lacks id n edit old now planner next b turn i is gives in
      subst (λ (h : InHand). IsLacking h b) (sym e) (record { below = k.below; absent = k.absent })

  -- it came
  pub on_after : (u : Hands) (planner next : Planner) (b : ℕ) (turn : PlanTurn) → IsPlanning id n edit old now planner →
      turn ≡ Need b next → PlanAnswers now.hold planner turn → hold ≡ record now.hold { room = r } →
      HasClaimedMore id n (hands_with now hold) u → u.order.items ≡ now.order.items ++ b ∷ [] →
      IsPlanning id n edit old u next
  on_after u planner next b turn i is gives e m order =
      planning_on id n edit old now u planner next b turn i is gives
      (more_then id n now (hands_with now hold) u (turned id n now hold r i.more.hands i.more.one e) m) order

-- want of memory stops the try
pub starved : {X : Type 0} (id : TableId) (n : ℕ) (old w : Hands) (r : Result X Refused) → HasClaimedMore id n old w →
    IsErr r × IsErrAnd r (λ e. e ≡ Memory) → IfErr r (λ why. HasStopped old w why)
starved id n old w (Ok x) m e = tt
starved id n old w (Err why) m e =
    subst (λ (y : Refused). HasStopped old w y) (sym e.1) (out_of_memory id n old w m)

-- what stopped a part of the try stops it
pub stopped_so : {X : Type 0} (w u : Hands) (r : Result X Refused) (why : Refused) → HasStopped w u why →
    IsErr r × IsErrAnd r (λ e. e ≡ why) → IfErr r (λ e. HasStopped w u e)
stopped_so w u (Ok x) why s e = tt
stopped_so w u (Err x) why s e = subst (λ (y : Refused). HasStopped w u y) (sym e.1) s

-- a claim that failed stops the try
pub asked_then : {X : Type 0} (id : TableId) (n : ℕ) (w w' u : Hands) (r : Result X Refused) (why : Refused) →
    HasClaimedMore id n w w' → HasStopped w' u why → IsErr r × IsErrAnd r (λ e. e ≡ why) →
    IfErr r (λ e. HasStopped w u e)
asked_then id n w w' u r why m s e = stopped_so w u r why (stopped_then id n w w' u why m s) e
