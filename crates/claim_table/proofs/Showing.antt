-- The claims of a snapshot, and its look.
use Rattle.std.specs.Prelude.{◌≡◌, ℕ, ◌+◌, ◌*◌, ◌<◌, true, List, [], ◌∷◌, ◌++◌, length, vec_capacity, Option, None}
use Rattle.std.specs.List.{range_with_len}
use Rattle.std.proofs.Common.{sym, ◌∙◌, ap, subst, arith}
use Rattle.atomic_table.specs.Seated.{TableId}
use Rattle.list_laws.proofs.Cited.{counted_below, counted_on, none_or}
use Rattle.point_order.specs.Sets.{IsIn}
use Rattle.edit_history.specs.declared.history.Entry.{Entry}
use Rattle.cell_store.specs.Buckets.{BucketContent, InHand, bucket_at}
use Rattle.bucket_grid.specs.Grids.{is_grid_size}
use Rattle.cell_store.specs.Meshes.{StandsForSome}
use Rattle.bucket_grid.proofs.Cited.{bucket_below}
use Rattle.claim_table.specs.declared.hands.Hands.{Hands}
use Rattle.claim_table.specs.declared.view.Act.TheVariants.{Look}
use Rattle.claim_table.specs.declared.view.View.{View}
use Rattle.claim_table.specs.Trails.{in_hand}
use Rattle.claim_table.specs.Hands.{Carries}
use Rattle.claim_table.specs.Plays.{HandStands, Shown}
use Rattle.claim_table.specs.Hands.{empty_places, AreHands, HasClaimedMore}
use Rattle.claim_table.specs.Showing.{IsClaimingAll, HasClaimedAll}
use Rattle.claim_table.proofs.Counted.{is_counted}
use Rattle.claim_table.proofs.MoreHands.{stands_in, claimed_then}
use Rattle.claim_table.proofs.Trailed.{in_hand_snoc}

-- ---- the claims

-- what is in hand stands for some history, after a claim
pub stands_some : (id : TableId) (n : ℕ) (w : Hands) → AreHands id n w → (h : List Entry) × HandStands w.place.me.0 h →
    StandsForSome w.hold
stands_some id n w a s = (s.0, stands_in id n w a s.0 s.1)

-- with the next bucket claimed, one more has been
pub claiming_goes_on : (id : TableId) (n b : ℕ) (old now next : Hands) → IsClaimingAll id n old now b →
    HasClaimedMore id n now next → next.order.items ≡ now.order.items ++ b ∷ [] → StandsForSome next.hold →
    IsClaimingAll id n old next (b + 1)
claiming_goes_on id n b old now next i m order stands = record {
  hands = m.hands;
  claimed = claimed_then old now next [] i.claimed m.claimed;
  order = order ∙ ap (λ (l : List ℕ). l ++ b ∷ []) i.order ∙ sym (counted_on b);
  stands = λ _. stands;
}

-- the bucket that comes next is not in hand
pub next_absent : (id : TableId) (n b : ℕ) (old now : Hands) → IsClaimingAll id n old now b →
    bucket_at now.hold.places b ≡ None
next_absent id n b old now i =
    none_or (bucket_at now.hold.places b)
    (λ s. let k = counted_below 0 b b (subst (λ (l : List ℕ). IsIn b l) i.order ((i.hands.carries.holds b).0 s)) in
    omega (arith, k))

-- once all have been, every bucket is in hand, and what is there stands for some history
pub claiming_ends : (id : TableId) (n count g : ℕ) (old now : Hands) → IsClaimingAll id n old now count → count ≡ n →
    is_grid_size g ≡ true → count ≡ g * g * g → HasClaimedAll old now
claiming_ends id n count g old now i all size cube =
    let wide : count ≡ length now.hold.places = all ∙ sym i.hands.places in
    let first = bucket_below g 0 size in
    record {
      claimed = i.claimed;
      order = i.order ∙ ap (range_with_len 0) wide;
      all = λ b l. (i.hands.carries.holds b).1 (subst (λ (m : List ℕ). IsIn b m) (sym i.order)
          (is_counted 0 count b (omega arith) (omega (arith, l, wide))));
      stands = i.stands (omega (arith, first, cube));
    }

-- ---- the look

-- hands that looked are hands, with all that they held
pub hands_looked : (id : TableId) (n found : ℕ) (w w' : Hands) → AreHands id n w →
    w'.place.table_id ≡ w.place.table_id → Shown w.place.me found w'.place.me → w'.hold ≡ w.hold → w'.order ≡ w.order →
    w'.first ≡ w.first → AreHands id n w'
hands_looked id n found w w' a seat told hold order first =
    let view = told.view in
    let k = a.carries in
    let places : w'.hold.places ≡ w.hold.places = ap (λ (x : InHand). x.places) hold in
    let items : w'.order.items ≡ w.order.items = ap (λ o. o.items) order in
    let capacity : vec_capacity w'.order ≡ vec_capacity w.order = ap (λ o. vec_capacity o) order in
    let wide = ap length places in
    let empty = ap empty_places places in
    let long = ap length items in
    let count = a.count in
    let room = a.room in
    record {
      table = seat ∙ a.table;
      words = a.words;
      places = wide ∙ a.places;
      some_part = subst (λ (x : ℕ). 0 < x) (sym (ap (λ (v : View). v.parts) view)) a.some_part;
      no_child = ap (λ (v : View). v.child) view ∙ a.no_child;
      first = first ∙ a.first ∙ sym (ap (λ (v : View). v.first) view);
      grid = ap (λ (x : InHand). x.grid) hold ∙ a.grid ∙ sym (ap (λ (v : View). v.grid) view);
      carries =
          subst (λ (t : List (Option BucketContent) × List ℕ). Carries w'.place.me t.0 t.1)
          (λ i. (sym places i, sym items i)) (record {
            places_are = ap (λ (v : View). v.held) view ∙ k.places_are;
            order_is =
                ap (λ (v : View). in_hand v.trail) view ∙ in_hand_snoc w.place.me.0.trail (Look found) ∙ k.order_is;
            slots = told.slots ∙ k.slots;
            holds = k.holds;
            once = k.once;
          });
      count = omega (arith, wide, empty, long, count);
      room = omega (arith, wide, capacity, room);
    }
