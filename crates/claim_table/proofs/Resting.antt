-- A pass between two calls.
use Rattle.std.specs.Prelude.{◌≡◌, ℕ, ◌+◌, ◌-◌, ◌*◌, ◌^◌, ◌<◌, ◌≤◌, List, [], None, length, replicate, vec_capacity}
use Rattle.std.proofs.Common.{refl, sym, ◌∙◌, ap, subst, arith}
use Rattle.std.proofs.lemmas.List.{length-replicate}
use Rattle.atomic_table.specs.Seated.{TableId}
use Rattle.list_laws.specs.Lists.{AreDistinct}
use Rattle.list_laws.proofs.Cited.{none_at, none_there}
use Rattle.point_order.specs.Sets.{IsIn}
use Rattle.cell_store.specs.Buckets.{bucket_at}
use Rattle.claim_table.specs.declared.hands.Hands.{Hands}
use Rattle.claim_table.specs.declared.view.Act.TheVariants.{Look}
use Rattle.claim_table.specs.declared.view.Key.{Key}
use Rattle.claim_table.specs.declared.view.View.{View}
use Rattle.claim_table.specs.Faces.{buckets_of, opening_of}
use Rattle.claim_table.specs.Rule.{opening_view}
use Rattle.claim_table.specs.Trails.{in_hand}
use Rattle.claim_table.specs.Plays.{Seated, looks, splits, child_of}
use Rattle.claim_table.specs.Hands.{emptied, AreHands, HasRest}
use Rattle.claim_table.proofs.MoreHands.{all_empty}
use Rattle.claim_table.proofs.Trailed.{in_hand_snoc}

-- a pass at rest, whose hold has a place for each bucket of its table, is hands
pub rested_hands : (id : TableId) (n : ℕ) (w : Hands) → HasRest w → w.place.table_id ≡ id → id.words ≡ n + 1 →
    length w.hold.places ≡ n → AreHands id n w
rested_hands id n w r table words places =
    let nothing : (b : ℕ) → bucket_at w.hold.places b ≡ None =
    λ b. ap (λ l. bucket_at l b) r.places ∙ r.rest.nothing b in
    let empty = all_empty w.hold.places nothing in
    record {
      table = table;
      words = words;
      places = places;
      some_part = r.rest.some_part;
      no_child = r.rest.no_child;
      first = r.first;
      grid = r.grid;
      carries = record {
        places_are = sym r.places;
        order_is = r.rest.none_in_hand ∙ sym r.order;
        slots = r.rest.no_slot ∙ ap emptied (sym r.order);
        holds = λ b. (
          (λ s. absurd (none_there (bucket_at w.hold.places b) (nothing b) s)),
          (λ i. absurd (subst (λ (l : List ℕ). IsIn b l) r.order i)),
        );
        once = subst (λ (l : List ℕ). AreDistinct l) (sym r.order) tt;
      };
      count =
          (let l : length w.order.items ≡ 0 = ap length r.order in omega (arith, l, empty));
      room = r.room;
    }

-- The hands are as before, and the view still says so.
pub rests_on : (w w' : Hands) → HasRest w → w'.hold ≡ w.hold → w'.order ≡ w.order → w'.first ≡ w.first
    → w'.place.me.0.held ≡ w.place.me.0.held → w'.place.me.0.grid ≡ w.place.me.0.grid →
    w'.place.me.0.first ≡ w.place.me.0.first → in_hand w'.place.me.0.trail ≡ in_hand w.place.me.0.trail →
    w'.place.me.1 ≡ w.place.me.1
    → w'.place.me.0.child ≡ None → 0 < w'.place.me.0.parts → w'.place.me.0.first + w'.place.me.0.parts ≤ 64 →
    w'.place.me.0.left ≤ 2 ^ 32 * w'.place.me.0.parts → HasRest w'
rests_on w w' r hold order first held grid same trail slots child some inside few = record {
  rest = record {
    nothing = λ b. ap (λ l. bucket_at l b) held ∙ r.rest.nothing b;
    none_in_hand = trail ∙ r.rest.none_in_hand;
    no_slot = slots ∙ r.rest.no_slot;
    no_child = child;
    some_part = some;
    inside = inside;
    few = few;
  };
  first = first ∙ r.first ∙ sym same;
  grid = ap (λ h. h.grid) hold ∙ r.grid ∙ sym grid;
  places = ap (λ h. h.places) hold ∙ r.places ∙ sym held;
  order = ap (λ o. o.items) order ∙ r.order;
  room = subst (λ h. length h.places ≤ vec_capacity w'.order) (sym hold)
      (subst (λ o. length w.hold.places ≤ vec_capacity o) (sym order) r.room);
}

-- after a look
pub rests_after_look : (w w' : Hands) (found : ℕ) → HasRest w → w'.hold ≡ w.hold → w'.order ≡ w.order →
    w'.first ≡ w.first → w'.place.me.0 ≡ looks w.place.me.0 found → w'.place.me.1 ≡ w.place.me.1 → HasRest w'
rests_after_look w w' found r hold order first view slots =
    rests_on w w' r hold order first (ap (λ (v : View). v.held) view) (ap (λ (v : View). v.grid) view)
    (ap (λ (v : View). v.first) view)
    (ap (λ (v : View). in_hand v.trail) view ∙ in_hand_snoc w.place.me.0.trail (Look found)) slots
    (ap (λ (v : View). v.child) view ∙ r.rest.no_child)
    (subst (λ (v : View). 0 < v.parts) (sym view) r.rest.some_part)
    (subst (λ (v : View). v.first + v.parts ≤ 64) (sym view) r.rest.inside)
    (subst (λ (v : View). v.left ≤ 2 ^ 32 * v.parts) (sym view) r.rest.few)

-- after no steps nothing is in hand
no_steps : in_hand [] ≡ []
unfolding in_hand
no_steps = refl

-- what is left of the entries that there may be
pub left_over : (most count h allowance : ℕ) → most ≡ h + allowance → count ≡ h → most - count ≡ allowance
left_over most count h allowance e is = omega arith

-- an allowance for which there is room is at most 2^32
pub few_more : (h allowance : ℕ) → h + allowance ≤ 2 ^ 32 → allowance ≤ 2 ^ 32
few_more h allowance l = omega arith

-- the first pass
pub rests_first : (k : Key) (w : Hands) (allowance : ℕ) → w.place.me ≡ (opening_view k, []) → w.first ≡ 0 →
    w.hold.grid ≡ k.grid → w.hold.places ≡ replicate (buckets_of k) None → w.order.items ≡ [] →
    buckets_of k ≤ vec_capacity w.order
    → 0 < k.parts → k.parts ≤ 64 → k.most - length (opening_of k) ≡ allowance → allowance ≤ 2 ^ 32 → HasRest w
rests_first k w allowance me first grid places order room some inside left few =
    let v : View = opening_view k in
    let enough : v.left ≤ 2 ^ 32 * k.parts = omega (arith, left, few, some) in
    let wide : length w.hold.places ≡ buckets_of k = ap length places ∙ length-replicate (buckets_of k) None in
    record {
      rest = record {
        nothing = λ b. ap (λ (m : Seated). bucket_at m.0.held b) me ∙ none_at (buckets_of k) b;
        none_in_hand = ap (λ (m : Seated). in_hand m.0.trail) me ∙ no_steps;
        no_slot = ap (λ (m : Seated). m.1) me;
        no_child = ap (λ (m : Seated). m.0.child) me;
        some_part = subst (λ (m : Seated). 0 < m.0.parts) (sym me) some;
        inside = subst (λ (m : Seated). m.0.first + m.0.parts ≤ 64) (sym me) (omega (arith, inside));
        few = subst (λ (m : Seated). m.0.left ≤ 2 ^ 32 * m.0.parts) (sym me) enough;
      };
      first = first ∙ sym (ap (λ (m : Seated). m.0.first) me);
      grid = grid ∙ sym (ap (λ (m : Seated). m.0.grid) me);
      places = places ∙ sym (ap (λ (m : Seated). m.0.held) me);
      order = order;
      room = omega (arith, wide, room);
    }

-- a pass that was split off
pub rests_apart : (w o : Hands) (parts left found : ℕ) → HasRest w → 0 < parts → parts < w.place.me.0.parts →
    left ≤ 2 ^ 32 → o.place.me ≡ (child_of (splits w.place.me.0 parts left found), []) →
    o.first ≡ w.place.me.0.first + (w.place.me.0.parts - parts)
    → o.hold.grid ≡ w.hold.grid → o.hold.places ≡ replicate (length w.hold.places) None → o.order.items ≡ [] →
    length w.hold.places ≤ vec_capacity o.order → HasRest o
rests_apart w o parts left found r some fewer few me first grid places order room =
    let v : View = w.place.me.0 in
    let in_all : v.first + v.parts ≤ 64 = r.rest.inside in
    let inside : v.first + (v.parts - parts) + parts ≤ 64 = omega (arith, fewer, in_all) in
    let enough : left ≤ 2 ^ 32 * parts = omega (arith, some, few) in
    let wide : length o.hold.places ≡ length w.hold.places =
    ap length places ∙ length-replicate (length w.hold.places) None in
    record {
      rest = record {
        nothing = λ b. ap (λ (m : Seated). bucket_at m.0.held b) me ∙ none_at (length v.held) b;
        none_in_hand = ap (λ (m : Seated). in_hand m.0.trail) me ∙ no_steps;
        no_slot = ap (λ (m : Seated). m.1) me;
        no_child = ap (λ (m : Seated). m.0.child) me;
        some_part = subst (λ (m : Seated). 0 < m.0.parts) (sym me) some;
        inside = subst (λ (m : Seated). m.0.first + m.0.parts ≤ 64) (sym me) inside;
        few = subst (λ (m : Seated). m.0.left ≤ 2 ^ 32 * m.0.parts) (sym me) enough;
      };
      first = first ∙ sym (ap (λ (m : Seated). m.0.first) me);
      grid = grid ∙ r.grid ∙ sym (ap (λ (m : Seated). m.0.grid) me);
      places = places ∙ ap (λ l. replicate (length l) None) r.places ∙ sym (ap (λ (m : Seated). m.0.held) me);
      order = order;
      room = omega (arith, wide, room);
    }
