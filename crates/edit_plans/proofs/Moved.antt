-- Moves, by what arrivals and refills answer.
use Rattle.std.specs.Prelude.{◌≡◌, ◌⊎◌, ℕ, ◌<◌, Bool, true, false, List, length, Option, None, Some, IsSome, Result, Ok}
use Rattle.std.specs.Prelude.{Err, IfOk, if◌then◌else◌}
use Rattle.std.specs.Option.{option_map}
use Rattle.std.proofs.Common.{refl, sym, ◌∙◌, ap, subst, inl, inr}
use Rattle.list_laws.proofs.Cited.{among_from, among_true, false_if, none_or, none_there, not_among}
use Rattle.point_order.specs.declared.cell.Cell.{Cell}
use Rattle.point_order.specs.Complex.{complex}
use Rattle.point_order.specs.Coordinates.{IsKey}
use Rattle.point_order.specs.Sets.{IsIn, is_among, with_point}
use Rattle.point_order.specs.Solid.{is_solid}
use Rattle.point_order.proofs.Cited.{in_with_old}
use Rattle.edit_history.specs.declared.history.Edit.{Edit}
use Rattle.edit_history.specs.declared.history.Edit.TheVariants.{Add, Move}
use Rattle.edit_history.specs.declared.history.Reply.{Reply}
use Rattle.edit_history.specs.declared.history.Reply.TheVariants.{Flat, Missing, Moved, Occupied}
use Rattle.edit_history.specs.Edits.{after, arrived, changed, moved_to, reply_to}
use Rattle.edit_history.specs.Histories.{replay}
use Rattle.edit_history.proofs.Cited.{after_moved, does_move}
use Rattle.bucket_grid.specs.Grids.{bucket_of}
use Rattle.cell_store.specs.Between.{Enters, HasWay, IsEntered, IsLeft, ShowsWhole, WasEntered}
use Rattle.cell_store.specs.Buckets.{BucketContent, InHand, Room, bucket_at, room_both}
use Rattle.cell_store.specs.Meshes.{AllInHand, IsHoldOf, MeshView}
use Rattle.cell_store.specs.Changes.{put_in, swapped_in}
use Rattle.cell_changes.specs.Changes.{IsChange}
use Rattle.cell_store.specs.Ready.{AreHeld}
use Rattle.cell_store.specs.Shares.{Shows}
use Rattle.cell_store.specs.Touches.{HoldTouched}
use Rattle.cell_store.proofs.Cited.{point_held, shows_of, solid_set}
use Rattle.cell_store.proofs.BetweenLaws.{entered_shows, held_entered, left_is_same}
use Rattle.cavity.specs.Both.{AreOfBoth}
use Rattle.cavity.specs.declared.fill_hole.Fresh.{Fresh}
use Rattle.cavity.proofs.Cited.{fresh_are_held}
use Rattle.insertion.specs.Arrivals.{ArrivalGives}
use Rattle.insertion.specs.declared.arrival.Arrival.{Arrival}
use Rattle.insertion.specs.declared.arrival.ArrivalTurn.{ArrivalTurn}
use Rattle.insertion.specs.declared.arrival.ArrivalTurn.TheVariants.{Done as Comes, Need as Wants}
use Rattle.cell_changes.specs.Changes.{IsRefilled}
use Rattle.vertex_removal.specs.Turns.{RefillAsksBelow, AsksNothing, NoneIsNeededAround, RefillGives}
use Rattle.vertex_removal.specs.declared.refill.RefillTurn.{RefillTurn}
use Rattle.vertex_removal.specs.declared.refill.RefillTurn.TheVariants.{Done as Fills, Flat as LiesFlat, Need as Lacks}
use Rattle.edit_plans.specs.declared.plan.Landed.{Landed}
use Rattle.edit_plans.specs.declared.plan.Look.{Look}
use Rattle.edit_plans.specs.declared.plan.Look.TheVariants.{Beside, Turn}
use Rattle.edit_plans.specs.declared.plan.Plan.{Plan}
use Rattle.edit_plans.specs.declared.plan.Planner.{Planner}
use Rattle.edit_plans.specs.declared.plan.Planner.TheVariants.{Home, Lands as Landing, Leaves as Leaving}
use Rattle.edit_plans.specs.declared.plan.PlanTurn.{PlanTurn}
use Rattle.edit_plans.specs.declared.plan.PlanTurn.TheVariants.{Done, Need}
use Rattle.edit_plans.specs.Leaving.{AnswersBeside, AreBoth, CanLeave, IsMovedBy, IsQuiet, RefillAnswers}
use Rattle.edit_plans.specs.Plans.{HoldsHome, IsAsked, IsLandedFor, IsLandedIn, IsPlanFor, IsPlanIn, IsPlannerIn}
use Rattle.edit_plans.specs.Plans.{LookAnswers, LookGives, PlanAnswers, PlanGives, ShowsPlanner, edit_of}
use Rattle.insertion.proofs.Cited.{none_lacks}
use Rattle.edit_plans.proofs.Planned.{here_at, home_begins, new_in, quiet_for, quiet_plan, there_or}

-- ---- a move that changes no point

-- the set stays where the reply tells of no change
stays_after : (s : List ℕ) (a b : ℕ) (r : Reply) → reply_to s (Move a b) ≡ r →
    changed (arrived s (Move a b) r) a r ≡ s → after s (Move a b) ≡ s
stays_after s a b r right same = ap (λ (x : Reply). changed (arrived s (Move a b) x) a x) right ∙ same

-- a move of a point that is not there is Missing
missing_reply : (s : List ℕ) (a b : ℕ) → is_among a s ≡ false → reply_to s (Move a b) ≡ Missing
missing_reply s a b f = rw f refl

-- one to a place where a point is is Occupied
occupied_reply : (s : List ℕ) (a b : ℕ) → is_among a s ≡ true → is_among b s ≡ true →
    reply_to s (Move a b) ≡ Occupied
occupied_reply s a b f g = rw (f, g) refl

-- one that would leave a flat set is Flat
flat_reply : (s : List ℕ) (a b : ℕ) → is_among a s ≡ true → is_among b s ≡ false →
    is_solid (moved_to a b s) ≡ false → reply_to s (Move a b) ≡ Flat
flat_reply s a b f g h = rw (f, g, h) refl

-- the point is not there
pub plan_away : (hold : InHand) (s : List ℕ) (a b : ℕ) (plan : Plan) → IsQuiet plan Missing → IsKey a → IsKey b →
    HoldsHome hold a → HoldsHome hold b → is_among a s ≡ false → IsPlanIn hold s (Move a b) plan
plan_away hold s a b plan q key goal home there lacks =
    quiet_plan hold s (Move a b) plan Missing q (key, goal) (missing_reply s a b lacks)
    (stays_after s a b Missing (missing_reply s a b lacks) refl)
    (λ x t. elim t.reached [
      | inl e ↦ here_at hold a t.point x home e t.number
      | inr r ↦ (elim r [
        | inl e ↦ here_at hold b t.point x there e t.number
        | inr k ↦ absurd (not_among s a lacks k.0)
      ])
    ])

-- its new place is taken
pub plan_occupied : (hold : InHand) (s : List ℕ) (a b : ℕ) (plan : Plan) → IsQuiet plan Occupied → IsKey a → IsKey b →
    HoldsHome hold a → HoldsHome hold b → is_among a s ≡ true → is_among b s ≡ true → IsPlanIn hold s (Move a b) plan
plan_occupied hold s a b plan q key goal home there f g =
    quiet_plan hold s (Move a b) plan Occupied q (key, goal) (occupied_reply s a b f g)
    (stays_after s a b Occupied (occupied_reply s a b f g) refl)
    (λ x t. elim t.reached [
      | inl e ↦ here_at hold a t.point x home e t.number
      | inr r ↦ (elim r [
        | inl e ↦ here_at hold b t.point x there e t.number
        | inr k ↦ absurd (k.1 (among_from b s g))
      ])
    ])

-- one that is there and goes to a free place is neither missing, nor is its place taken
not_quiet : (s : List ℕ) (a b : ℕ) → is_among a s ≡ true → is_among b s ≡ false →
    (reply_to s (Move a b) ≡ Missing) ⊎ (reply_to s (Move a b) ≡ Occupied) → ⊥
not_quiet s a b there free e = by_solid (is_solid (moved_to a b s)) (rw (there, free) at e)
  where
    by_solid : (x : Bool) → ((if x then Moved else Flat) ≡ Missing) ⊎ ((if x then Moved else Flat) ≡ Occupied) → ⊥
    by_solid true e = elim e [
      | inl f ↦ (let g : Moved ≡ Missing = f in cc g)
      | inr f ↦ (let g : Moved ≡ Occupied = f in cc g)
    ]
    by_solid false e = elim e [
      | inl f ↦ (let g : Flat ≡ Missing = f in cc g)
      | inr f ↦ (let g : Flat ≡ Occupied = f in cc g)
    ]

-- ---- the new place

-- once the new place's change is known, the look finds it beside the old one
pub lands_beside : (hold : InHand) (s : List ℕ) (a b : ℕ) (arrival : Arrival) (t : ArrivalTurn) (f : Fresh) →
    Shows hold s → IsPlannerIn hold s (Landing a b arrival) → t ≡ Comes f → ArrivalGives hold s b t →
    LookGives hold s (Move a b) (Beside (record { from = a; to = b; came = f }))
lands_beside hold s a b arrival t f sh k is gives =
    let g = subst (λ (x : ArrivalTurn). ArrivalGives hold s b x) is gives in
    let new = new_in hold s b arrival k.3 in (
      refl,
      record {
        is = record { there = k.2; new = new; change = g.1.change };
        home = k.0;
        goal = k.1;
        gone = g.2;
        fresh = fresh_are_held s b f.gone.items f.fresh.items hold (solid_set hold s sh) new g.1 g.2 k.1;
        none = g.0;
      },
    )

-- a bucket that the new place needs is asked for
pub lands_asks : (hold : InHand) (s : List ℕ) (a b x : ℕ) (arrival next : Arrival) (t : ArrivalTurn) →
    IsPlannerIn hold s (Landing a b arrival) → t ≡ Wants x next → ArrivalGives hold s b t →
    IsAsked hold s (Move a b) x (Landing a b next)
lands_asks hold s a b x arrival next t k is gives =
    let g = subst (λ (y : ArrivalTurn). ArrivalGives hold s b y) is gives in
    let free = false_if (is_among b s) (λ t. (new_in hold s b arrival k.3).absent (among_from b s t)) in
    record {
      lacking = g.0;
      exact = λ e. absurd (not_quiet s a b (among_true a s k.2) free e);
      same = refl;
      stands = (k.0, k.1, k.2, g.1);
    }

-- ---- what both changes make of the set

-- the new place of a move that has landed is free
free_of : (s : List ℕ) (l : Landed) → IsLandedFor s l → is_among l.to s ≡ false
free_of s l k = false_if (is_among l.to s) (λ t. k.new.absent (among_from l.to s t))

-- its plan is both changes together
made_for : (s : List ℕ) (l : Landed) (left : Fresh) (plan : Plan) → IsLandedFor s l →
    IsRefilled (with_point l.to s) l.from left.gone.items left.fresh.items → AreBoth l.came left plan →
    IsPlanFor s (Move l.from l.to) plan
made_for s l left plan k r both =
    let right : reply_to s (Move l.from l.to) ≡ Moved = does_move l.from l.to s
    (record { there = among_true l.from s k.there; free = free_of s l k; solid = r.solid }) in
    record {
      reply = both.reply ∙ sym right;
      change = subst (λ (t : List ℕ). IsChange (complex s) (complex t) plan.gone.items plan.fresh.items)
          (sym (after_moved l.from l.to s right))
          (both.change (complex s) (complex (with_point l.to s)) (complex (moved_to l.from l.to s)) k.change r.change);
    }

-- where the rest would be flat the move is Flat
flat_for : (s : List ℕ) (l : Landed) → IsLandedFor s l → is_solid (moved_to l.from l.to s) ≡ false →
    reply_to s (Move l.from l.to) ≡ Flat
flat_for s l k f = flat_reply s l.from l.to (among_true l.from s k.there) (free_of s l k) f

-- what the move comes to, where no bucket is asked for
abbrev pub IsDoneFor : List ℕ → Landed → PlanTurn → Type 0
IsDoneFor s l (Done plan) = IsPlanFor s (Move l.from l.to) plan
IsDoneFor s l (Need b next) = ⊥

-- so the move comes to what the refill says
pub done_for : (mid : InHand) (s : List ℕ) (l : Landed) (found : RefillTurn) (turn : PlanTurn) → IsLandedFor s l →
    RefillGives mid (with_point l.to s) l.from found → AsksNothing found → IsMovedBy l found turn → IsDoneFor s l turn
done_for mid s l (Fills f) (Done plan) k g n m = made_for s l f plan k g.1 m
done_for mid s l (Fills f) (Need b next) k g n m = absurd m
done_for mid s l LiesFlat (Done plan) k g n m = quiet_for s (Move l.from l.to) plan Flat m (flat_for s l k g.1)
    (stays_after s l.from l.to Flat (flat_for s l k g.1) refl)
done_for mid s l LiesFlat (Need b next) k g n m = absurd m
done_for mid s l (Lacks b) turn k g n m = absurd n

-- ---- the hold with the new place

-- the hold with the new place has the same grid
entered_grid : (hold mid : InHand) (gone fresh : List Cell) (p : ℕ) → IsEntered gone fresh p hold mid →
    mid.grid ≡ hold.grid
entered_grid hold mid gone fresh p e = e.put.grid ∙ e.swapped.grid

-- what is in hand with it was in hand before
held_before : (hold mid : InHand) (gone fresh : List Cell) (p b : ℕ) → IsEntered gone fresh p hold mid →
    IsSome (bucket_at mid.places b) → IsSome (bucket_at hold.places b)
held_before hold mid gone fresh p b e h =
    from (swapped_in hold.grid b gone fresh) (bucket_at hold.places b) (subst IsSome (e.swapped.places b)
    (from (put_in e.between.grid b p) (bucket_at e.between.places b) (subst IsSome (e.put.places b) h)))
  where
    from : (f : BucketContent → BucketContent) (o : Option BucketContent) → IsSome (option_map f o) → IsSome o
    from f None s = absurd (cc s)
    from f (Some c) s = refl

-- cells that are held with it were held before
cells_before : (hold mid : InHand) (gone fresh l : List Cell) (p : ℕ) → IsEntered gone fresh p hold mid →
    AreHeld mid l → AreHeld hold l
cells_before hold mid gone fresh l p e h c i q j =
    subst (λ (g : ℕ). IsSome (bucket_at hold.places (bucket_of g q))) (entered_grid hold mid gone fresh p e)
    (held_before hold mid gone fresh p (bucket_of mid.grid q) e (h c i q j))

-- a bucket that is not there is not there then, and was not before
lacks_then : (hold mid : InHand) (gone fresh : List Cell) (p b : ℕ) → IsEntered gone fresh p hold mid →
    bucket_at hold.places b ≡ None → bucket_at mid.places b ≡ None
lacks_then hold mid gone fresh p b e none = none_or (bucket_at mid.places b) (λ h.
    none_there (bucket_at hold.places b) none (held_before hold mid gone fresh p b e h))

-- and one that is not there then was not there before
lacks_before : (hold mid : InHand) (gone fresh : List Cell) (p b : ℕ) → IsEntered gone fresh p hold mid →
    bucket_at mid.places b ≡ None → bucket_at hold.places b ≡ None
lacks_before hold mid gone fresh p b e none = none_or (bucket_at hold.places b) (λ h.
    none_there (bucket_at mid.places b) none (held_entered hold mid gone fresh p b e h))

-- the cells of two changes are held where both are
both_held : (hold : InHand) (first but second other list : List Cell) → AreOfBoth first but second other list →
    AreHeld hold first → AreHeld hold second → AreHeld hold list
both_held hold first but second other list a f g c i =
    elim (a.each c i) [ inl j ↦ f c j.0 | inr j ↦ g c j.0 ]

-- ---- what the move comes to

module _ (hold : InHand) (s : List ℕ) (l : Landed) (k : IsLandedIn hold s l) where
  -- every bucket that it touches is in hand
  moves_touched : (mid : InHand) → IsEntered l.came.gone.items l.came.fresh.items l.to hold mid →
      NoneIsNeededAround mid (with_point l.to s) l.from → HoldTouched hold.grid s (Move l.from l.to) hold.places
  moves_touched mid e none b t = elim t.reached [
    | inl q ↦ here_at hold l.from t.point b k.home q t.number
    | inr r ↦ (elim r [
      | inl q ↦ here_at hold l.to t.point b k.goal q t.number
      | inr q ↦ there_or (bucket_at hold.places b) (λ lacks. (elim q.2 [
        | inl g ↦ k.none b (record {
          absent = lacks;
          cell = g.q;
          goes = g.goes;
          point = t.point;
          has = g.has;
          number = t.number;
        })
        | inr j ↦ none b (record {
          absent = lacks_then hold mid l.came.gone.items l.came.fresh.items l.to b e lacks;
          cell = j.q;
          listed = j.listed;
          has_v = j.has_p;
          point = t.point;
          has = j.has_e;
          number = t.number ∙ ap (λ (g : ℕ). bucket_of g t.point)
              (sym (entered_grid hold mid l.came.gone.items l.came.fresh.items l.to e));
        })
      ]))
    ])
  ]

  -- what the refill says with the new place there is what the move comes to
  pub beside_gives : (found : RefillTurn) (turn : PlanTurn) → Shows hold s → AnswersBeside hold l found →
      IsMovedBy l found turn → PlanGives hold s (Move l.from l.to) turn
  beside_gives (Fills f) (Done plan) sh a m =
      let g = a.gives s sh k in
      let before = cells_before hold a.mid l.came.gone.items l.came.fresh.items in
      record {
        is = made_for s l f plan k.is g.1 m;
        key = (sh.keys.below l.from k.is.there, k.is.new.key);
        gone = both_held hold l.came.gone.items f.fresh.items f.gone.items l.came.fresh.items plan.gone.items m.gone
            k.gone (before f.gone.items l.to a.entered g.2);
        fresh = both_held hold l.came.fresh.items f.gone.items f.fresh.items l.came.gone.items plan.fresh.items
            m.fresh k.fresh (before f.fresh.items l.to a.entered g.3);
        touched = moves_touched a.mid a.entered g.0;
      }
  beside_gives (Fills f) (Need b next) sh a m = absurd m
  beside_gives LiesFlat (Done plan) sh a m =
      let g = a.gives s sh k in
      let right = flat_for s l k.is g.1 in
      quiet_plan hold s (Move l.from l.to) plan Flat m (sh.keys.below l.from k.is.there, k.is.new.key) right
      (stays_after s l.from l.to Flat right refl) (moves_touched a.mid a.entered g.0)
  beside_gives LiesFlat (Need b next) sh a m = absurd m
  beside_gives (Lacks b) (Done plan) sh a m = absurd m
  beside_gives (Lacks b) (Need c next) sh a m =
      let g = a.gives s sh k in
      let count : length a.mid.places ≡ length hold.places = a.entered.put.count ∙ a.entered.swapped.count in
      record {
        lacking = record {
          below = subst (λ (x : ℕ × ℕ). x.0 < x.1) (λ i. (sym m.0 i, count i)) a.below;
          absent = subst (λ (x : ℕ). bucket_at hold.places x ≡ None) (sym m.0)
              (lacks_before hold a.mid l.came.gone.items l.came.fresh.items l.to b a.entered g.absent);
        };
        exact = λ e. absurd (not_quiet s l.from l.to (among_true l.from s k.is.there) (free_of s l k.is) e);
        same = ap edit_of m.1;
        stands = subst (λ (x : Planner). IsPlannerIn hold s x) (sym m.1) k;
      }

  -- the new place enters
  pub lands_enters : Shows hold s → Enters hold s l.came.gone.items l.came.fresh.items l.to
  lands_enters sh = record {
    shown = sh;
    new = k.is.new;
    change = k.is.change;
    held = k.goal;
    gone_held = k.gone;
    fresh_held = k.fresh;
  }

-- the old place is there then
pub still_there : (s : List ℕ) (l : Landed) → IsLandedFor s l → IsIn l.from (with_point l.to s)
still_there s l k = in_with_old l.to l.from s k.there

-- ---- while the new place is there

-- what the refill of v answers
pub refill_answers : {E : Type 0} (hold : InHand) (v w : ℕ) (r : Result RefillTurn E) → w ≡ v →
    IfOk r (λ t. (s : List ℕ) → Shows hold s → RefillGives hold s w t) →
    IfOk r (λ t. RefillAsksBelow (length hold.places) t) → IfOk r (λ t. AllInHand hold → AsksNothing t) →
    IfOk r (RefillAnswers hold v)
refill_answers hold v w (Ok t) e g b a = record {
  gives = λ s sh. subst (λ (x : ℕ). RefillGives hold s x t) e (g s sh);
  below = b;
  all = a;
}
refill_answers hold v w (Err x) e g b a = tt

module _ (hold mid : InHand) (l : Landed) (e : IsEntered l.came.gone.items l.came.fresh.items l.to hold mid) where
  -- the hold shows the set with the new place
  mid_shows : (s : List ℕ) → Shows hold s → IsLandedIn hold s l → Shows mid (with_point l.to s)
  mid_shows s sh k = entered_shows hold mid s l.came.gone.items l.came.fresh.items l.to (lands_enters hold s l k sh) e

  -- the old place can be left
  pub mid_leaves : ShowsPlanner hold (Leaving l) → CanLeave mid l.from
  mid_leaves k = (
    (with_point l.to k.0, mid_shows k.0 k.1 k.2, still_there k.0 l k.2.is),
    subst (λ (g : ℕ). IsSome (bucket_at mid.places (bucket_of g l.from)))
        (sym (entered_grid hold mid l.came.gone.items l.came.fresh.items l.to e))
        (held_entered hold mid l.came.gone.items l.came.fresh.items l.to (bucket_of hold.grid l.from) e k.2.home),
  )

  -- the new place can be taken out again
  pub mid_entered : ShowsPlanner hold (Leaving l) → WasEntered l.came.gone.items l.came.fresh.items l.to mid
  mid_entered k = record { before = hold; set = k.0; enters = lands_enters hold k.0 l k.2 k.1; entered = e }

  -- the refill answers for the set with it
  pub found_beside : {E : Type 0} (r : Result RefillTurn E) → IfOk r (RefillAnswers mid l.from) →
      IfOk r (AnswersBeside hold l)
  found_beside (Ok t) a = record {
    mid = mid;
    entered = e;
    gives = λ s sh k. a.gives (with_point l.to s) (mid_shows s sh k);
    below = a.below;
  }
  found_beside (Err x) a = tt

  -- the way back is next
  pub way_back : HasWay hold l.came.gone.items l.came.fresh.items l.to →
      mid.room ≡ record hold.room { swap = Some (l.came.fresh.items, l.came.gone.items) } →
      HasWay mid l.came.fresh.items l.came.gone.items l.to
  way_back w r = record {
    swap = ap (λ (x : Room). x.swap) r;
    point = ap (λ (x : Room). x.point) r ∙ w.point;
    back = ap (λ (x : Room). x.back) r ∙ w.back;
  }

  -- and the hold is as before
  pub left_same : (new : InHand) → ShowsPlanner hold (Leaving l) →
      HasWay hold l.came.gone.items l.came.fresh.items l.to →
      mid.room ≡ record hold.room { swap = Some (l.came.fresh.items, l.came.gone.items) } →
      IsLeft l.came.gone.items l.came.fresh.items l.to mid new →
      new.room ≡ record mid.room { swap = Some (l.came.gone.items, l.came.fresh.items) } → new ≡ hold
  left_same new k w r left back =
      let same = left_is_same hold mid new k.0 l.came.gone.items l.came.fresh.items l.to
      (lands_enters hold k.0 l k.2 k.1) e left in
      let room : new.room ≡ hold.room =
      back
      ∙ ap (λ (x : Room). record x { swap = Some (l.came.gone.items, l.came.fresh.items) }) r
      ∙ (λ i. record hold.room { swap = sym w.swap i }) in
      λ i. record { grid = same.0 i; places = same.1 i; room = room i }

-- ---- the same with other room

module _ (hold roomy : InHand) (r : Room) (l : Landed) (e : roomy ≡ record hold { room = r }) where
  -- a move that has landed has landed with other room
  landed_roomed : (s : List ℕ) → IsLandedIn hold s l → IsLandedIn roomy s l
  landed_roomed s k = subst (λ (h : InHand). IsLandedIn h s l) (sym e) (record {
    is = k.is;
    home = k.home;
    goal = k.goal;
    gone = k.gone;
    fresh = k.fresh;
    none = λ b n. k.none b (record {
      absent = n.absent;
      cell = n.cell;
      goes = n.goes;
      point = n.point;
      has = n.has;
      number = n.number;
    });
  })

  -- the hold shows what it showed
  shows_roomed : (s : List ℕ) → Shows hold s → Shows roomy s
  shows_roomed s sh = subst (λ (h : InHand). Shows h s) (sym e)
      (record { ascending = sh.ascending; keys = sh.keys; solid = sh.solid; sights = sh.sights })

  -- the planner that is to leave stands right still
  pub leaving_roomed : ShowsPlanner hold (Leaving l) → ShowsPlanner roomy (Leaving l)
  leaving_roomed k = (k.0, shows_roomed k.0 k.1, landed_roomed k.0 k.2)

  -- and what the refill says there it says of the hold
  pub answers_roomed : (found : RefillTurn) → AnswersBeside roomy l found → AnswersBeside hold l found
  answers_roomed found a =
      let grid : roomy.grid ≡ hold.grid = ap (λ (h : InHand). h.grid) e in
      let places : roomy.places ≡ hold.places = ap (λ (h : InHand). h.places) e in
      let sw = a.entered.swapped in
      record {
        mid = a.mid;
        entered = record {
          between = a.entered.between;
          swapped = record {
            grid = sw.grid ∙ grid;
            count = sw.count ∙ ap length places;
            places = λ b. sw.places b ∙ (λ i. option_map (swapped_in (grid i) b l.came.gone.items l.came.fresh.items)
                (bucket_at (places i) b));
          };
          put = a.entered.put;
        };
        gives = λ s sh k. a.gives s (shows_roomed s sh) (landed_roomed s k);
        below = a.below;
      }

-- a hold with other room, by its own
pub own_room : (new old : InHand) (r : Room) → new ≡ record old { room = r } → new ≡ record old { room = new.room }
own_room new old r e = e ∙ (λ i. record old { room = (sym e i).room })

-- there is room for the way
pub way_made : (hold roomy : InHand) (gone fresh : List Cell) (p : ℕ) →
    roomy ≡ record hold { room = room_both gone fresh (Add p) } → HasWay roomy gone fresh p
way_made hold roomy gone fresh p e = record {
  swap = ap (λ (h : InHand). h.room.swap) e;
  point = ap (λ (h : InHand). h.room.point) e;
  back = ap (λ (h : InHand). h.room.back) e;
}

-- what leaving answers
pub leaves_answers : (hold : InHand) (l : Landed) (found : RefillTurn) (turn : PlanTurn) → AnswersBeside hold l found →
    IsMovedBy l found turn → PlanAnswers hold (Leaving l) turn
leaves_answers hold l found turn a m s sh k = beside_gives hold s l k found turn sh a m

-- ---- looks

-- what a look gives in each set that the hold shows
look_in : (hold : InHand) (planner : Planner) (look look' : Look) → look ≡ look' → LookAnswers hold planner look →
    (s : List ℕ) → Shows hold s → IsPlannerIn hold s planner → LookGives hold s (edit_of planner) look'
look_in hold planner look look' is f s sh k = subst (λ (x : Look). LookGives hold s (edit_of planner) x) is (f s sh k)

-- ---- in a mesh

module _ (mesh : MeshView) (hold : InHand) (own : IsHoldOf mesh hold) (edit : Edit) (planner : Planner)
    (look : Look) where
  -- what a look gives of the points that the history leaves
  mesh_look : (look' : Look) → planner ≡ Home edit → look ≡ look' → LookAnswers hold planner look →
      LookGives hold (replay mesh.history) edit look'
  mesh_look look' begun is f =
      subst (λ (e : Edit). LookGives hold (replay mesh.history) e look') (ap edit_of begun)
      (look_in hold planner look look' is f (replay mesh.history) (shows_of mesh hold own)
      (home_begins hold (replay mesh.history) edit planner begun))

  -- a turn that is done has the plan of the edit in the mesh
  pub mesh_planned : (turn : PlanTurn) (plan : Plan) → planner ≡ Home edit → look ≡ Turn turn → turn ≡ Done plan →
      LookAnswers hold planner look → IsPlanFor (replay mesh.history) edit plan
  mesh_planned turn plan begun is done f =
      (subst (λ (t : PlanTurn). PlanGives hold (replay mesh.history) edit t) done
      (mesh_look (Turn turn) begun is f)).is

  -- no bucket is asked for
  pub mesh_lacks : (turn : PlanTurn) (b : ℕ) (next : Planner) → planner ≡ Home edit → look ≡ Turn turn →
      turn ≡ Need b next → LookAnswers hold planner look → ⊥
  mesh_lacks turn b next begun is asks f =
      none_lacks hold b own.whole.all
      (subst (λ (t : PlanTurn). PlanGives hold (replay mesh.history) edit t) asks
      (mesh_look (Turn turn) begun is f)).lacking

  -- a look that finds a move landed has it so in the mesh
  pub mesh_lands : (l : Landed) → planner ≡ Home edit → look ≡ Beside l → LookAnswers hold planner look →
      (edit ≡ Move l.from l.to) × IsLandedFor (replay mesh.history) l
  mesh_lands l begun is f =
      let r = mesh_look (Beside l) begun is f in
      (r.0, r.1.is)

-- the old place can be left in a mesh with the new one
pub can_leave : (hold : InHand) (s : List ℕ) (l : Landed) → IsLandedFor s l → ShowsWhole hold (with_point l.to s) →
    CanLeave hold l.from
can_leave hold s l k w = (
  (with_point l.to s, w.shown, still_there s l k),
  point_held hold l.from w.whole.has w.whole.all,
)

-- the plan that the refill there comes to
pub made_in : {E : Type 0} (hold : InHand) (s : List ℕ) (l : Landed) (r : Result RefillTurn E) (found : RefillTurn)
    (turn : PlanTurn) (plan : Plan) → IsLandedFor s l → ShowsWhole hold (with_point l.to s) →
    IfOk r (RefillAnswers hold l.from) → r ≡ Ok found → IsMovedBy l found turn → turn ≡ Done plan →
    IsPlanFor s (Move l.from l.to) plan
made_in hold s l r found turn plan k w a is m e =
    let b : RefillAnswers hold l.from found =
    subst (λ (x : Result RefillTurn _). IfOk x (RefillAnswers hold l.from)) is a in
    subst (λ (t : PlanTurn). IsDoneFor s l t) e
    (done_for hold s l found turn k (b.gives (with_point l.to s) w.shown) (b.all w.whole.all) m)
