-- The end of a try.
use Rattle.std.specs.Prelude.{◌≡◌, ℕ, ◌+◌, ◌-◌, ◌≤◌, List, [], ◌∷◌, ◌++◌, length, vec_capacity, Option, None, Some}
use Rattle.std.specs.Prelude.{IsSome, IfSome}
use Rattle.std.proofs.Common.{refl, sym, ◌∙◌, ap, subst, inl, inr, arith}
use Rattle.std.specs.Option.{option_map}
use Rattle.std.proofs.lemmas.List.{append_assoc}
use Rattle.atomic_table.specs.Seated.{TableId}
use Rattle.list_laws.specs.Lists.{AreDistinct}
use Rattle.list_laws.proofs.Cited.{one_value, same_there}
use Rattle.point_order.specs.declared.cell.Cell.{Cell}
use Rattle.edit_history.specs.declared.history.Edit.{Edit}
use Rattle.edit_history.specs.declared.history.Edit.TheVariants.{Add, Move, Take}
use Rattle.edit_history.specs.declared.history.Entry.{Entry}
use Rattle.edit_history.specs.declared.history.Reply.{Reply}
use Rattle.edit_history.specs.Edits.{edit_points}
use Rattle.edit_history.specs.Histories.{replay}
use Rattle.point_order.specs.Sets.{IsIn}
use Rattle.cell_store.specs.Buckets.{BucketContent, InHand, Room, bucket_at, room_for}
use Rattle.cell_store.specs.Changes.{IsNext, Follows, IsSwapped}
use Rattle.cell_store.specs.Missing.{ArePointsHeld}
use Rattle.cell_store.specs.Points.{came, goal_of}
use Rattle.cell_store.specs.Ready.{CanCome}
use Rattle.cell_store.proofs.Cited.{goal_free, next_entry, sound_of, stands_shows}
use Rattle.claim_rule.specs.Boards.{in_hand_of}
use Rattle.claim_rule.specs.Good.{AreSharesOf}
use Rattle.cell_store.specs.Shares.{Stands, share_at}
use Rattle.claim_rule.specs.Events.{renewed_from}
use Rattle.claim_rule.specs.Making.{IsExchangedIn}
use Rattle.claim_rule.proofs.Cited.{any_brought, renewed_at}
use Rattle.claim_table.specs.declared.hands.Hands.{Hands}
use Rattle.edit_plans.specs.declared.plan.Plan.{Plan}
use Rattle.claim_table.specs.declared.view.Act.TheVariants.{Commit}
use Rattle.claim_table.specs.declared.view.View.{View}
use Rattle.claim_table.specs.Trails.{in_hand}
use Rattle.claim_table.specs.Hands.{emptied, releases_of, AreHands, HasGivenBack, empty_places}
use Rattle.claim_table.specs.Plays.{Seated, Committed, entry_of}
use Rattle.grid_claims.specs.Claiming.{IsReadyPlan, IsFinished, IsRightIn}
use Rattle.claim_table.proofs.Cited.{stands_in, in_hand_snoc}

-- a content that is there is there when it is mapped
some_mapped : (f : BucketContent → BucketContent) (o : Option BucketContent) → IsSome o → IsSome (option_map f o)
some_mapped f None s = absurd (cc s)
some_mapped f (Some c) s = refl

-- and one that is there once mapped was there
mapped_some : (f : BucketContent → BucketContent) (o : Option BucketContent) → IsSome (option_map f o) → IsSome o
mapped_some f None s = absurd (cc s)
mapped_some f (Some c) s = refl

-- the new place of a move is one of its points
goal_among : (edit : Edit) (q : ℕ) → goal_of edit ≡ Some q → IsIn q (edit_points edit)
goal_among (Add p) q e = absurd (cc e)
goal_among (Take p) q e = absurd (cc e)
goal_among (Move a b) q e = inr (inl (one_value b q e))

-- so its bucket is in hand, and after the exchange of the cells it can come
pub goal_comes :
    (hold swap : InHand) (gone fresh : List Cell) (e : Entry) → ArePointsHeld hold (edit_points e.edit) →
    IsRightIn hold e.edit e.reply → hold.room ≡ room_for gone fresh e.edit → IsSwapped gone fresh hold swap →
    swap.room.point ≡ hold.room.point → IfSome (came e.edit e.reply) (CanCome swap)
goal_comes hold swap gone fresh e held right room sw point =
    goal_free hold hold swap right.0 gone fresh e right.1 (λ q k. held q (goal_among e.edit q k)) right.2 refl refl sw
    (point ∙ ap (λ (r : Room). r.point) room)

-- the hold shows the points that the history leaves before the ticket step, and the reply is right of them
pub right_in :
    (id : TableId) (n tag number : ℕ) (edit : Edit) (w : Hands) (plan : Plan) (m : Seated) → AreHands id n w →
    IsReadyPlan w.place.me.0 w.hold edit plan → Committed tag edit plan.reply w.place.me number m →
    IsRightIn w.hold edit plan.reply
right_in id n tag number edit w plan m a plan_is told =
    let h : List Entry = told.history in (
      replay h,
      stands_shows w.hold h (stands_in id n w a h told.stands),
      plan_is.ready.right (replay h) (stands_shows (in_hand_of w.place.me.0.grid w.place.me.0.held) h told.stands),
    )

-- after the ticket step and the change of the hold
pub hands_committed :
    (id : TableId) (n tag number : ℕ) (edit : Edit) (w w' : Hands) (plan : Plan) → AreHands id n w →
    IsReadyPlan w.place.me.0 w.hold edit plan → Committed tag edit plan.reply w.place.me number w'.place.me →
    w'.place.table_id ≡ w.place.table_id → w'.order ≡ w.order → w'.first ≡ w.first →
    IsExchangedIn plan.gone.items plan.fresh.items (entry_of number w.first tag edit plan.reply) w.hold w'.hold →
    AreHands id n w'
hands_committed id n tag number edit w w' plan a plan_is told table order first made =
    let h : List Entry = told.history in
    let e : Entry = entry_of number w.place.me.0.first tag edit plan.reply in
    let places = a.carries.places_are in
    let st : Stands w.hold h = stands_in id n w a h told.stands in
    let follows : Follows h e plan.gone.items plan.fresh.items = record {
      number = sym told.count;
      reply = plan_is.ready.right (replay h)
          (stands_shows (in_hand_of w.place.me.0.grid w.place.me.0.held) h told.stands);
      change = plan_is.change (replay h) (stands_shows w.hold h st);
    } in
    let next : IsNext h e plan.gone.items plan.fresh.items =
    next_entry h e plan.gone.items plan.fresh.items (sound_of w.hold h st) plan_is.key follows in
    let x : IsExchangedIn plan.gone.items plan.fresh.items e w.hold w'.hold =
    subst (λ (f : ℕ). IsExchangedIn plan.gone.items plan.fresh.items (entry_of number f tag edit plan.reply) w.hold
    w'.hold)
    a.first made in
    let shares : AreSharesOf w.place.me.0.grid h w.hold.places =
    subst (λ (l : List (Option BucketContent)). AreSharesOf w.place.me.0.grid h l) places told.shares in
    let g : ℕ = w.place.me.0.grid in
    let h' : List Entry = h ++ e ∷ [] in
    let now : w'.hold.places ≡ renewed_from g h' 0 w.hold.places =
    any_brought g h e plan.gone.items plan.fresh.items w.hold x.between x.with_goal w'.hold a.grid shares next x.swapped
    x.arrived x.noted in
    let wide : length w'.hold.places ≡ length w.hold.places = x.noted.count ∙ x.arrived.count ∙ x.swapped.count in
    let put : ℕ → BucketContent → BucketContent = λ b c. share_at g (0 + b) h' in
    let here : (b : ℕ) → bucket_at w'.hold.places b ≡ option_map (put b) (bucket_at w.hold.places b) =
    λ b. ap (λ l. bucket_at l b) now ∙ renewed_at g h' 0 w.hold.places b in
    let k = a.carries in
    let empty : empty_places w'.hold.places ≡ empty_places w.hold.places =
    ap empty_places now ∙ same_empty g h' 0 w.hold.places in
    let count = a.count in
    let room = a.room in
    record {
      table = table ∙ a.table;
      words = a.words;
      places = wide ∙ a.places;
      some_part = subst (λ (x : ℕ). Prim.Native.Nat.◌<◌ 0 x) (sym (ap (λ (v : View). v.parts) told.view)) a.some_part;
      no_child = ap (λ (v : View). v.child) told.view ∙ a.no_child;
      first = first ∙ a.first ∙ sym (ap (λ (v : View). v.first) told.view);
      grid =
          x.noted.grid ∙ x.arrived.grid ∙ x.swapped.grid ∙ a.grid ∙ sym (ap (λ (v : View). v.grid) told.view);
      carries = record {
        places_are =
            ap (λ (v : View). v.held) told.view ∙ ap (λ l. renewed_from g h' 0 l) places ∙ sym now;
        order_is =
            ap (λ (v : View). in_hand v.trail) told.view ∙ in_hand_snoc w.place.me.0.trail (Commit number)
            ∙ k.order_is ∙ sym (ap (λ o. o.items) order);
        slots = told.slots ∙ k.slots ∙ ap (λ o. emptied o.items) (sym order);
        holds = λ b. (
          (λ s. subst (λ o. IsIn b o.items) (sym order) ((k.holds b).0 (mapped_some (put b) (bucket_at w.hold.places b)
              (same_there (bucket_at w'.hold.places b) (option_map (put b) (bucket_at w.hold.places b)) (here b) s)))),
          (λ i. same_there (option_map (put b) (bucket_at w.hold.places b)) (bucket_at w'.hold.places b) (sym (here b))
              (some_mapped (put b) (bucket_at w.hold.places b) ((k.holds b).1 (subst (λ o. IsIn b o.items) order i)))),
        );
        once = subst (λ o. AreDistinct o.items) (sym order) k.once;
      };
      count =
          ap (λ o. length o.items + empty_places w'.hold.places) order
          ∙ ap (λ (x : ℕ). length w.order.items + x) empty ∙ count ∙ sym wide;
      room = subst (λ o. length w'.hold.places ≤ vec_capacity o) (sym order) (omega (arith, wide, room));
    }
  where
    same_empty : (g : ℕ) (h : List Entry) (i : ℕ) (l : List (Option BucketContent)) →
        empty_places (renewed_from g h i l) ≡ empty_places l
    same_empty g h i [] = refl
    same_empty g h i (None ∷ l) = ap (λ (x : ℕ). x + 1) (same_empty g h (i + 1) l)
    same_empty g h i (Some c ∷ l) = same_empty g h (i + 1) l

-- after the commit and the releases the edit was made, and all buckets were given back
pub finished : (id : TableId) (n tag number : ℕ) (edit : Edit) (reply : Reply) (w w' u : Hands) (plan : Plan) →
    AreHands id n w → IsReadyPlan w.place.me.0 w.hold edit plan → reply ≡ plan.reply →
    Committed tag edit reply w.place.me number w'.place.me → w'.order ≡ w.order → HasGivenBack w' u →
    IsFinished tag edit plan.reply number w u
finished id n tag number edit reply w w' u plan a plan_is reply_is told order back =
    let v : View = w.place.me.0 in
    let st = told.stands in
    let sh = stands_shows (in_hand_of v.grid v.held) told.history st in
    let tail : (v.trail ++ Commit number ∷ []) ++ releases_of w'.order.items
    ≡ v.trail ++ Commit number ∷ releases_of w.order.items =
    append_assoc v.trail (Commit number ∷ []) (releases_of w'.order.items)
    ∙ ap (λ o. v.trail ++ Commit number ∷ releases_of o.items) order in
    record {
      later = told.later;
      few = told.few;
      history = told.history;
      legal = st.legal;
      knows = told.known;
      count = told.count;
      right = plan_is.ready.right (replay told.history) sh;
      touched = λ b t. (a.carries.holds b).0 (subst (λ (l : List (Option BucketContent)). IsSome (bucket_at l b))
          a.carries.places_are (plan_is.ready.touched (replay told.history) sh b t));
      exact = λ x b. (
        (λ i. plan_is.ready.exact x (replay told.history) sh b
            (subst (λ (l : List (Option BucketContent)). IsSome (bucket_at l b)) (sym a.carries.places_are)
            ((a.carries.holds b).1 i))),
        (λ t. (a.carries.holds b).0 (subst (λ (l : List (Option BucketContent)). IsSome (bucket_at l b))
            a.carries.places_are (plan_is.ready.touched (replay told.history) sh b t))),
      );
      view =
          back.view
          ∙ (λ i. record (told.view i) {
            held = u.hold.places;
            trail = (told.view i).trail ++ releases_of w'.order.items;
          })
          ∙ (λ i. record v {
            held = u.hold.places;
            left = v.left - 1;
            seen = number + 1;
            made = v.made ++ entry_of number v.first tag edit (reply_is i) ∷ [];
            trail = tail i;
          });
    }
