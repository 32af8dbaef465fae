use Rattle.std.proofs.Common.{◌≡◌, ◌*◌, ◌∙◌, ℕ, List, Option, Some, length, drop, sym, ap, subst, IfSome, IsSome}
use Rattle.std.specs.Option.{option_map}
use Rattle.list_laws.proofs.Cited.{front_is, if_some, on_err}
use Rattle.point_order.specs.declared.cell.Cell.{Cell}
use Rattle.cell_store.specs.Buckets.{BucketContent, StandAtPlaces, bucket_at, layout_at, shown}
use Rattle.bucket_grid.specs.Grids.{bucket_of}
use Rattle.cell_store.specs.Ready.{AllRoomier, IsNoteReady, IsPointReady, ArePlansReady}
use Rattle.cell_store.proofs.NoteLaws.{all_noted, all_pointed, all_ready, all_shown, hold_with, ready_same}
use Rattle.cell_store.proofs.RoomLaws.{held_in_hand, held_there, hold_finds}
use Rattle.cell_store.proofs.hold.Hold.make_ready.Goals as goal

pub new-requires-clause-gone : goal.new-requires-clause-gone
new-requires-clause-gone c =
    held_in_hand c.args.self.now c.grid-grid.result c.deref.result.now c.args.gone.now c.grid-grid.ensures.grid
    (ap shown c.deref.ensures.value ∙ ap (λ h. h.places) c.self.view_is) c.requires.gone

pub new-requires-clause-fresh : goal.new-requires-clause-fresh
new-requires-clause-fresh c =
    held_in_hand c.args.self.now c.grid-grid.result c.deref.result.now c.args.fresh.now c.grid-grid.ensures.grid
    (ap shown c.deref.ensures.value ∙ ap (λ h. h.places) c.self.view_is) c.requires.fresh

pub new-requires-clause-found : goal.new-requires-clause-found
new-requires-clause-found c t =
    let e = ap shown c.deref.ensures.value ∙ ap (λ h. h.places) c.self.view_is in
    let i = c.self.inside in
    let grid : c.grid-grid.result ≡ i.grid = c.grid-grid.ensures.grid ∙ sym (ap (λ h. h.grid) c.self.view_is) in
    hold_finds c.args.self.now c.grid-grid.result c.deref.result.now c.args.gone.now c.args.fresh.now
    c.grid-grid.ensures.grid e
    (subst (λ (g : ℕ). StandAtPlaces g (shown c.deref.result.now)) (sym grid)
    (subst (StandAtPlaces i.grid) (sym (ap shown c.deref.ensures.value)) c.self.invariant.4)) (c.requires.found t)

pub make_rooms-requires-clause-note : goal.make_rooms-requires-clause-note
make_rooms-requires-clause-note c =
    let hold = c.args.self.now in
    if_some (λ p. IsSome (bucket_at hold.places (bucket_of hold.grid p)))
    (λ p. IsSome (layout_at c.deref_mut.result.now (bucket_of c.grid-grid.result p))) c.args.wanted.note
    (λ p k. held_there hold c.grid-grid.result p c.deref_mut.result.now c.grid-grid.ensures.grid
    (ap shown c.deref_mut.ensures.value ∙ ap (λ h. h.places) c.self.view_is) k) c.requires.note

pub make_rooms-requires-clause-point : goal.make_rooms-requires-clause-point
make_rooms-requires-clause-point c =
    let hold = c.args.self.now in
    if_some (λ p. IsSome (bucket_at hold.places (bucket_of hold.grid p)))
    (λ p. IsSome (layout_at c.deref_mut.result.now (bucket_of c.grid-grid.result p))) c.args.wanted.point
    (λ p k. held_there hold c.grid-grid.result p c.deref_mut.result.now c.grid-grid.ensures.grid
    (ap shown c.deref_mut.ensures.value ∙ ap (λ h. h.places) c.self.view_is) k) c.requires.point

-- where memory is wanting for plans, no bucket was changed
pub invariant_of-self : goal.invariant_of-self
invariant_of-self c = c.self.invariant

-- where it is wanting for room, what was ready stays so
pub invariant_of-self-in_err-make_rooms : goal.invariant_of-self-in_err-make_rooms
invariant_of-self-in_err-make_rooms c =
    let i = c.self.inside in
    let places = i.places.items in
    let after = c.make_rooms.new.places in
    let m : AllRoomier places after = subst (λ l. AllRoomier l after) c.deref_mut.ensures.value
    c.make_rooms.ensures.same in
    let e = front_is after (drop (length after) places) i.places.len
    (i.places.ok.0 ∙ sym (ap length c.deref_mut.ensures.value) ∙ sym c.make_rooms.auto.places) in
    subst (λ ps. (length ps ≡ i.grid * i.grid * i.grid) × IfSome i.exchange
    (λ y. ArePlansReady y.turned i.grid y.gone.items y.fresh.items ps y.plans.items) ×
    IfSome i.note (λ n. IsNoteReady i.grid ps n) × IfSome i.point (λ n. IsPointReady i.grid ps n) ×
    StandAtPlaces i.grid (shown ps)) (sym e) (
      m.count ∙ c.self.invariant.0,
      if_some (λ y. ArePlansReady y.turned i.grid y.gone.items y.fresh.items places y.plans.items)
          (λ y. ArePlansReady y.turned i.grid y.gone.items y.fresh.items after y.plans.items) i.exchange
          (λ y q. all_ready y.turned i.grid y.gone.items y.fresh.items places after y.plans.items m q)
          c.self.invariant.1,
      all_noted i.grid places after i.note m c.self.invariant.2,
      all_pointed i.grid places after i.point m c.self.invariant.3,
      subst (StandAtPlaces i.grid) (sym (all_shown places after m)) c.self.invariant.4,
    )

-- the hold is then as before
pub returns-in_err-make_rooms-clause-err : goal.returns-in_err-make_rooms-clause-err
returns-in_err-make_rooms-clause-err c =
    let i = c.self.inside in
    let places = i.places.items in
    let after = c.make_rooms.new.places in
    let m : AllRoomier places after = subst (λ l. AllRoomier l after) c.deref_mut.ensures.value
    c.make_rooms.ensures.same in
    let e = front_is after (drop (length after) places) i.places.len
    (i.places.ok.0 ∙ sym (ap length c.deref_mut.ensures.value) ∙ sym c.make_rooms.auto.places) in
    on_err c.from_residual-in_err-make_rooms.result (ap (λ (l : List (Option BucketContent)). record {
      grid = i.grid;
      places = l;
      room = record {
        swap = option_map (λ e. (e.gone.items, e.fresh.items)) i.exchange;
        push = i.note;
        point = i.point;
        back = i.back;
      };
    }) (ap shown e ∙ all_shown places after m) ∙ c.self.view_is)

-- with the plans that were made the exchange is ready too
pub invariant_of-self-2 : goal.invariant_of-self-2
invariant_of-self-2 c =
    let i = c.self.inside in
    let places = i.places.items in
    let after = c.make_rooms.new.places in
    let m : AllRoomier places after = subst (λ l. AllRoomier l after) c.deref_mut.ensures.value
    c.make_rooms.ensures.same in
    let e = front_is after (drop (length after) places) i.places.len
    (i.places.ok.0 ∙ sym (ap length c.deref_mut.ensures.value) ∙ sym c.make_rooms.auto.places) in
    let x = c.in_ok-exchange.exchange in
    let grid : c.grid-grid.result ≡ i.grid = c.grid-grid.ensures.grid ∙ sym (ap (λ h. h.grid) c.self.view_is) in
    let ready = ready_same x.turned c.grid-grid.result i.grid c.args.gone.now c.args.fresh.now x.gone.items
    x.fresh.items c.deref.result.now places x.plans.items grid (sym c.in_ok-exchange.ensures.gone)
    (sym c.in_ok-exchange.ensures.fresh) c.deref.ensures.value c.in_ok-exchange.ensures.ready in
    subst (λ ps. (length ps ≡ i.grid * i.grid * i.grid) × ArePlansReady x.turned i.grid x.gone.items x.fresh.items ps
    x.plans.items × IfSome c.args.wanted.note (λ n. IsNoteReady i.grid ps n) ×
    IfSome c.args.wanted.point (λ n. IsPointReady i.grid ps n) × StandAtPlaces i.grid (shown ps)) (sym e) (
      m.count ∙ c.self.invariant.0,
      all_ready x.turned i.grid x.gone.items x.fresh.items places after x.plans.items m ready,
      subst (λ (g : ℕ). IfSome c.args.wanted.note (λ n. IsNoteReady g after n)) grid c.in_ok-make_rooms.ensures.note,
      subst (λ (g : ℕ). IfSome c.args.wanted.point (λ n. IsPointReady g after n)) grid c.in_ok-make_rooms.ensures.point,
      subst (StandAtPlaces i.grid) (sym (all_shown places after m)) c.self.invariant.4,
    )

-- the hold is as before but for its room
pub returns-clause-ok : goal.returns-clause-ok
returns-clause-ok c =
    let i = c.self.inside in
    let places = i.places.items in
    let after = c.make_rooms.new.places in
    let m : AllRoomier places after = subst (λ l. AllRoomier l after) c.deref_mut.ensures.value
    c.make_rooms.ensures.same in
    let e = front_is after (drop (length after) places) i.places.len
    (i.places.ok.0 ∙ sym (ap length c.deref_mut.ensures.value) ∙ sym c.make_rooms.auto.places) in
    let x = c.in_ok-exchange.exchange in
    let hold = c.args.self.now in
    hold_with hold i.grid (shown places) _ hold.places _ _ c.self.view_is
    (ap shown e ∙ all_shown places after m ∙ ap (λ h. h.places) c.self.view_is)
    ∙ ap (λ (l : List Cell). record hold {
      room = record {
        swap = Some (l, x.fresh.items);
        push = c.args.wanted.note;
        point =
            c.args.wanted.point;
        back = c.args.wanted.back;
      };
    }) c.in_ok-exchange.ensures.gone
    ∙ ap (λ (l : List Cell). record hold {
      room = record {
        swap = Some (c.args.gone.now, l);
        push = c.args.wanted.note;
        point =
            c.args.wanted.point;
        back = c.args.wanted.back;
      };
    }) c.in_ok-exchange.ensures.fresh
