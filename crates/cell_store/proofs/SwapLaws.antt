-- The exchange that is next.
use Rattle.std.specs.Prelude.{◌≡◌, ℕ, ◌*◌, Bool, true, false, List, Option, Some, IfSome, length}
use Rattle.std.specs.Option.{option_map}
use Rattle.std.proofs.Common.{refl, sym, ◌∙◌, ap, subst}
use Rattle.point_order.specs.declared.cell.Cell.{Cell}
use Rattle.list_laws.proofs.Cited.{if_some}
use Rattle.cell_store.specs.Buckets.{InHand, Layout, Room, StandAtPlaces, bucket_at, layout_at, shown, swap_after}
use Rattle.cell_store.specs.Changes.{swapped_in}
use Rattle.bucket_grid.specs.Grids.{bucket_of}
use Rattle.cell_store.specs.Ready.{AreExchanged, AreMade, FindsCells, HasPlaceFor, HasRoom, IsExchangeMade, IsNoteReady}
use Rattle.cell_store.specs.Ready.{IsPointReady, ArePlansReady, NextIs}
use Rattle.cell_store.specs.declared.room.Exchange.{Exchange}
use Rattle.cell_store.specs.declared.room.PlanFor.{PlanFor}
use Rattle.cell_store.proofs.RoomLaws.{exchanged, ready_back, rest_exchanged, stand_swapped, swapped_places}

-- the cells that go and come in it
pub next_room : (back : Bool) (x : Exchange) (after : List PlanFor) (next : Option Exchange) (gone fresh : List Cell) →
    x.gone.items ≡ gone → x.fresh.items ≡ fresh → NextIs back x after next →
    option_map (λ e. (e.gone.items, e.fresh.items)) next ≡ swap_after back gone fresh
next_room false x after next gone fresh e f n = ap (option_map (λ e. (e.gone.items, e.fresh.items))) n
next_room true x after next gone fresh e f n =
    ap (option_map (λ e. (e.gone.items, e.fresh.items))) n.1
    ∙ ap (λ (l : List Cell). Some (l, n.0.fresh.items)) (n.3 ∙ f)
    ∙ ap (λ (l : List Cell). Some (fresh, l)) (n.4 ∙ e)

-- the room then
pub room_after : (next : Option Exchange) (note point : Option ℕ) (back : Bool) {swap : Option (List Cell × List Cell)}
    → option_map (λ e. (e.gone.items, e.fresh.items)) next ≡ swap →
    ◌≡◌ {A = Room} (record {
      swap = option_map (λ e. (e.gone.items, e.fresh.items)) next;
      push = note;
      point = point;
      back = back;
    }) (record { swap = swap; push = note; point = point; back = back })
room_after next note point back e = λ i. record { swap = e i; push = note; point = point; back = back }

-- it is ready
pub next_ready : (back : Bool) (g : ℕ) (h : InHand) (x : Exchange) (after : List PlanFor) (next : Option Exchange)
    (old new : List (Option Layout)) → h.grid ≡ g → h.places ≡ shown old →
    ArePlansReady x.turned g x.gone.items x.fresh.items old x.plans.items → StandAtPlaces g (shown old) →
    AreMade x.turned x.plans.items after old new →
    (back ≡ true → FindsCells h x.gone.items x.fresh.items) → NextIs back x after next →
    IfSome next (λ e. ArePlansReady e.turned g e.gone.items e.fresh.items new e.plans.items)
next_ready false g h x after next old new e1 e2 r st m f n = subst
    (λ o. IfSome o (λ e. ArePlansReady e.turned g e.gone.items e.fresh.items new e.plans.items)) (sym n) tt
next_ready true g h x after next old new e1 e2 r st m f n =
    let y = n.0 in
    let found = f refl in
    let same : InHand = record { grid = g; places = shown old; room = h.room } in
    let moved : FindsCells same x.gone.items x.fresh.items = subst
    (λ (k : InHand). FindsCells k x.gone.items x.fresh.items) (λ i. record
    { grid = e1 i; places = e2 i; room = h.room }) found in
    let back = ready_back x.turned g x.gone.items x.fresh.items old new x.plans.items after r st m moved.there
    moved.absent in
    subst (λ o. IfSome o (λ e. ArePlansReady e.turned g e.gone.items e.fresh.items new e.plans.items)) (sym n.1)
    (subst (λ (t : Bool). ArePlansReady t g y.gone.items y.fresh.items new y.plans.items) (sym n.5)
    (subst (λ (l : List Cell). ArePlansReady _ g l y.fresh.items new y.plans.items) (sym n.3)
    (subst (λ (l : List Cell). ArePlansReady _ g x.fresh.items l new y.plans.items) (sym n.4)
    (subst (λ (l : List PlanFor). ArePlansReady _ g x.fresh.items x.gone.items new l) (sym n.2) back))))

-- ---- a hold after an exchange

module _ (g : ℕ) (x : Exchange) (next : Option Exchange) (places after : List (Option Layout)) (back : Bool)
    (ready : ArePlansReady x.turned g x.gone.items x.fresh.items places x.plans.items)
    (stand : StandAtPlaces g (shown places)) (m : IsExchangeMade back x next places after) where
  -- in each bucket the exchange was made
  each : (b : ℕ) → AreExchanged g b x.gone.items x.fresh.items (layout_at places b) (layout_at after b)
  each = exchanged x.turned g x.gone.items x.fresh.items places after x.plans.items m.after ready stand m.made

  -- every bucket after it
  pub swap_shown : (b : ℕ) → bucket_at (shown after) b ≡ option_map (swapped_in g b x.gone.items x.fresh.items)
      (bucket_at (shown places) b)
  swap_shown = swapped_places g x.gone.items x.fresh.items places after each

  -- what is ready then
  pub swap_keeps : (point note : Option ℕ) (h : InHand) → h.grid ≡ g → h.places ≡ shown places →
      (back ≡ true → FindsCells h x.gone.items x.fresh.items) → length places ≡ g * g * g →
      IfSome note (λ p. IsNoteReady g places p) → IfSome point (λ p. IsPointReady g places p) →
      (length after ≡ g * g * g) × IfSome next (λ e. ArePlansReady e.turned g e.gone.items e.fresh.items after
      e.plans.items)
      × IfSome note (λ p. IsNoteReady g after p) × IfSome point (λ p. IsPointReady g after p) ×
      StandAtPlaces g (shown after)
  swap_keeps point note h e1 e2 found len n b = (
    m.made.count ∙ len,
    next_ready back g h x m.after next places after e1 e2 ready stand m.made found m.is,
    if_some (λ p. IsNoteReady g places p) (λ p. IsNoteReady g after p) note
        (λ p k. rest_exchanged HasRoom g x.gone.items x.fresh.items places after
        (λ c y q. record { points = q.points; entries = q.entries }) each (bucket_of g p) k) n,
    if_some (λ p. IsPointReady g places p) (λ p. IsPointReady g after p) point
        (λ p k. rest_exchanged (HasPlaceFor p) g x.gone.items x.fresh.items places after
        (λ c y q. record { absent = q.absent; there = q.there }) each (bucket_of g p) k) b,
    stand_swapped g x.gone.items x.fresh.items (shown places) (shown after) swap_shown stand,
  )
