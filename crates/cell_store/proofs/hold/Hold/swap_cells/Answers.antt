use Rattle.std.proofs.Common.{◌≡◌, ◌*◌, sym, ◌∙◌, ap, subst, length, drop, true, IfSome}
use Rattle.std.specs.Option.{option_map}
use Rattle.list_laws.proofs.Cited.{front_is, same_pair, some_holds}
use Rattle.cell_store.specs.Buckets.{StandAtPlaces, shown, swap_after}
use Rattle.cell_store.specs.Ready.{FindsCells, IsAllowed, IsExchangeMade, IsNoteReady, IsPointReady, ArePlansReady}
use Rattle.cell_store.proofs.Layouts.{shown_len}
use Rattle.cell_store.proofs.RoomLaws.{ready_allowed, swap_is}
use Rattle.cell_store.proofs.SwapLaws.{next_room, room_after, swap_keeps, swap_shown}
use Rattle.cell_store.proofs.hold.Hold.swap_cells.Goals as goal
use Rattle.cell_store.proofs.hold.Hold.swap_cells.Goals.{in-Some-1, in-None-1}

pub made-requires-clause-allowed : goal.made-requires-clause-allowed
made-requires-clause-allowed c =
    let x = c.in-Some.exchange in
    let i = c.self.inside in
    let r = some_holds (λ e. ArePlansReady e.turned i.grid e.gone.items e.fresh.items i.places.items e.plans.items)
    i.exchange
    x c.in-Some.ensures.value c.self.invariant.1 in
    λ l k. subst (λ m. IsAllowed x.turned m l) (sym c.deref_mut.ensures.value)
    (ready_allowed x.turned i.grid x.gone.items x.fresh.items i.places.items x.plans.items r l k)

pub made-requires-clause-apart : goal.made-requires-clause-apart
made-requires-clause-apart c =
    let x = c.in-Some.exchange in
    let i = c.self.inside in
    (some_holds (λ e. ArePlansReady e.turned i.grid e.gone.items e.fresh.items i.places.items e.plans.items)
    i.exchange x
    c.in-Some.ensures.value c.self.invariant.1).apart

-- once the exchange is made what else was ready stays so, and the one back is ready where it can be made
pub invariant_of-self : goal.invariant_of-self
invariant_of-self c =
    let x = c.in-Some.exchange in
    let i = c.self.inside in
    let h = c.args.self.now in
    let places = i.places.items in
    let after = c.made.new.places in
    let known = c.in-Some.ensures.value in
    let ready = some_holds (λ e. ArePlansReady e.turned i.grid e.gone.items e.fresh.items places e.plans.items)
    i.exchange x
    known c.self.invariant.1 in
    let m : IsExchangeMade i.back x c.made.result places after =
    subst (λ l. IsExchangeMade i.back x c.made.result l after) c.deref_mut.ensures.value c.made.ensures in
    let pair = same_pair x.gone.items c.args.gone.now x.fresh.items c.args.fresh.now
    (ap (option_map (λ e. (e.gone.items, e.fresh.items))) known ∙ ap (λ h. h.room.swap) c.self.view_is
    ∙ c.requires.room) in
    let e = front_is after (drop (length after) places) i.places.len
    (i.places.ok.0 ∙ sym (ap length c.deref_mut.ensures.value) ∙ sym c.made.auto.places) in
    let found : i.back ≡ true → FindsCells h x.gone.items x.fresh.items =
    λ s. subst (λ l. FindsCells h l x.fresh.items) (sym pair.0)
    (subst (λ l. FindsCells h c.args.gone.now l) (sym pair.1)
    (c.requires.found (sym (ap (λ k. k.room.back) c.self.view_is) ∙ s))) in
    subst (λ ps. (length ps ≡ i.grid * i.grid * i.grid)
    × IfSome c.made.result (λ y. ArePlansReady y.turned i.grid y.gone.items y.fresh.items ps y.plans.items)
    × IfSome i.note (λ n. IsNoteReady i.grid ps n) × IfSome i.point (λ n. IsPointReady i.grid ps n)
    × StandAtPlaces i.grid (shown ps)) (sym e)
    (swap_keeps i.grid x c.made.result places after i.back ready c.self.invariant.4 m i.point i.note h
    (ap (λ k. k.grid) (sym c.self.view_is)) (ap (λ k. k.places) (sym c.self.view_is)) found c.self.invariant.0
    c.self.invariant.2 c.self.invariant.3)

-- the same on the other way through the call
pub invariant_of-self-in-Some-2 : goal.invariant_of-self-in-Some-2
invariant_of-self-in-Some-2 c =
    let x = c.in-Some.exchange in
    let i = c.self.inside in
    let h = c.args.self.now in
    let places = i.places.items in
    let after = c.made.new.places in
    let known = c.in-Some.ensures.value in
    let ready = some_holds (λ e. ArePlansReady e.turned i.grid e.gone.items e.fresh.items places e.plans.items)
    i.exchange x
    known c.self.invariant.1 in
    let m : IsExchangeMade i.back x c.made.result places after =
    subst (λ l. IsExchangeMade i.back x c.made.result l after) c.deref_mut.ensures.value c.made.ensures in
    let pair = same_pair x.gone.items c.args.gone.now x.fresh.items c.args.fresh.now
    (ap (option_map (λ e. (e.gone.items, e.fresh.items))) known ∙ ap (λ h. h.room.swap) c.self.view_is
    ∙ c.requires.room) in
    let e = front_is after (drop (length after) places) i.places.len
    (i.places.ok.0 ∙ sym (ap length c.deref_mut.ensures.value) ∙ sym c.made.auto.places) in
    let found : i.back ≡ true → FindsCells h x.gone.items x.fresh.items =
    λ s. subst (λ l. FindsCells h l x.fresh.items) (sym pair.0)
    (subst (λ l. FindsCells h c.args.gone.now l) (sym pair.1)
    (c.requires.found (sym (ap (λ k. k.room.back) c.self.view_is) ∙ s))) in
    subst (λ ps. (length ps ≡ i.grid * i.grid * i.grid)
    × IfSome c.made.result (λ y. ArePlansReady y.turned i.grid y.gone.items y.fresh.items ps y.plans.items)
    × IfSome i.note (λ n. IsNoteReady i.grid ps n) × IfSome i.point (λ n. IsPointReady i.grid ps n)
    × StandAtPlaces i.grid (shown ps)) (sym e)
    (swap_keeps i.grid x c.made.result places after i.back ready c.self.invariant.4 m i.point i.note h
    (ap (λ k. k.grid) (sym c.self.view_is)) (ap (λ k. k.places) (sym c.self.view_is)) found c.self.invariant.0
    c.self.invariant.2 c.self.invariant.3)

-- the hold is swapped
pub returns-in-Some : goal.returns-in-Some
returns-in-Some c = elim c.match-self-made.branch [
  | in-Some-1 w ↦ (
      let x = c.in-Some.exchange in
      let i = c.self.inside in
      let h = c.args.self.now in
      let places = i.places.items in
      let after = c.made.new.places in
      let known = c.in-Some.ensures.value in
      let ready = some_holds (λ e. ArePlansReady e.turned i.grid e.gone.items e.fresh.items places e.plans.items)
      i.exchange x
      known c.self.invariant.1 in
      let m : IsExchangeMade i.back x c.made.result places after =
      subst (λ l. IsExchangeMade i.back x c.made.result l after) c.deref_mut.ensures.value c.made.ensures in
      let pair = same_pair x.gone.items c.args.gone.now x.fresh.items c.args.fresh.now
      (ap (option_map (λ e. (e.gone.items, e.fresh.items))) known ∙ ap (λ h. h.room.swap) c.self.view_is
      ∙ c.requires.room) in
      let e = front_is after (drop (length after) places) i.places.len
      (i.places.ok.0 ∙ sym (ap length c.deref_mut.ensures.value) ∙ sym c.made.auto.places) in
      let f = swap_shown i.grid x c.made.result places after i.back ready c.self.invariant.4 m in
      let done = swap_is h _ i.grid (shown places) (shown after) c.args.gone.now c.args.fresh.now x.gone.items
      x.fresh.items
      (ap (λ k. k.grid) c.self.view_is) (ap (λ k. k.places) c.self.view_is) (ap (λ k. k.grid) w.self-is)
      (ap (λ k. k.places) w.self-is ∙ ap shown e)
      (shown_len after ∙ m.made.count ∙ sym (shown_len places)) pair.0 pair.1 f in
      record {
        swapped = done;
        room = ap (λ k. k.room) w.self-is ∙ room_after c.made.result i.note i.point i.back
            (next_room i.back x m.after c.made.result c.args.gone.now c.args.fresh.now pair.0 pair.1 m.is)
            ∙ ap (λ k. record k.room { swap = swap_after k.room.back c.args.gone.now c.args.fresh.now }) c.self.view_is;
      }
      )
  | in-None-1 w ↦ (
      let x = c.in-Some.exchange in
      let i = c.self.inside in
      let h = c.args.self.now in
      let places = i.places.items in
      let after = c.made.new.places in
      let known = c.in-Some.ensures.value in
      let ready = some_holds (λ e. ArePlansReady e.turned i.grid e.gone.items e.fresh.items places e.plans.items)
      i.exchange x
      known c.self.invariant.1 in
      let m : IsExchangeMade i.back x c.made.result places after =
      subst (λ l. IsExchangeMade i.back x c.made.result l after) c.deref_mut.ensures.value c.made.ensures in
      let pair = same_pair x.gone.items c.args.gone.now x.fresh.items c.args.fresh.now
      (ap (option_map (λ e. (e.gone.items, e.fresh.items))) known ∙ ap (λ h. h.room.swap) c.self.view_is
      ∙ c.requires.room) in
      let e = front_is after (drop (length after) places) i.places.len
      (i.places.ok.0 ∙ sym (ap length c.deref_mut.ensures.value) ∙ sym c.made.auto.places) in
      let f = swap_shown i.grid x c.made.result places after i.back ready c.self.invariant.4 m in
      let done = swap_is h _ i.grid (shown places) (shown after) c.args.gone.now c.args.fresh.now x.gone.items
      x.fresh.items
      (ap (λ k. k.grid) c.self.view_is) (ap (λ k. k.places) c.self.view_is) (ap (λ k. k.grid) w.self-is)
      (ap (λ k. k.places) w.self-is ∙ ap shown e)
      (shown_len after ∙ m.made.count ∙ sym (shown_len places)) pair.0 pair.1 f in
      record {
        swapped = done;
        room = ap (λ k. k.room) w.self-is ∙ room_after c.made.result i.note i.point i.back
            (next_room i.back x m.after c.made.result c.args.gone.now c.args.fresh.now pair.0 pair.1 m.is)
            ∙ ap (λ k. record k.room { swap = swap_after k.room.back c.args.gone.now c.args.fresh.now }) c.self.view_is;
      }
      )
]
