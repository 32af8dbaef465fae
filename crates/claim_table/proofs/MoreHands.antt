-- Hands with one more bucket, and with a claim that failed.
use Rattle.std.specs.Prelude.{◌≡◌, ℕ, zero, suc, ◌+◌, ◌<◌, List, [], ◌∷◌, ◌++◌, map, length, vec_capacity, Option, None}
use Rattle.std.specs.Prelude.{Some, slice_set}
use Rattle.std.proofs.Common.{refl, sym, ◌∙◌, ap, subst, arith, length-set, get_or-set_other}
use Rattle.std.proofs.lemmas.List.{append_assoc, append-nil, map-append, length-append}
use Rattle.list_laws.proofs.Cited.{none_or}
use mathlib.Core.Logic.{dite}
use native.Mathlib.Decide.{ℕ_discrete}
use Rattle.atomic_table.specs.Seated.{TableId}
use Rattle.edit_history.specs.declared.history.Entry.{Entry}
use Rattle.cell_store.specs.Buckets.{BucketContent, InHand, Room, bucket_at}
use Rattle.cell_store.specs.Shares.{Stands, Shows}
use Rattle.edit_history.specs.Histories.{replay}
use Rattle.cell_store.proofs.Cited.{fewer_show, stands_shows}
use Rattle.claim_rule.specs.Boards.{in_hand_of}
use Rattle.claim_table.specs.declared.hands.Hands.{Hands}
use Rattle.claim_table.specs.declared.view.Act.{Act}
use Rattle.claim_table.specs.declared.view.Act.TheVariants.{Claim, Miss}
use Rattle.claim_table.specs.declared.view.View.{View}
use Rattle.claim_table.specs.Trails.{in_hand}
use Rattle.claim_table.specs.Hands.{Carries, empty_places, AreHands, HasClaimed, ShowsOne, HasClaimedMore, HasGivenBack}
use Rattle.claim_table.specs.Plays.{Seated, claims, fails, HandStands}
use Rattle.cell_store.specs.Meshes.{AreAmong}
use Rattle.claim_table.proofs.Trailed.{in_hand_snoc}

-- where a bucket comes into an empty place there is one empty place less
pub fewer_empty : (l : List (Option BucketContent)) (b : ℕ) (c : BucketContent) → bucket_at l b ≡ None → b < length l →
    empty_places (slice_set l b (Some c)) + 1 ≡ empty_places l
fewer_empty [] b c e h = absurd (omega arith)
fewer_empty (None ∷ l) zero c e h = refl
fewer_empty (Some x ∷ l) zero c e h = absurd (cc e)
fewer_empty (None ∷ l) (suc b) c e h = let r = fewer_empty l b c e (omega arith) in omega arith
fewer_empty (Some x ∷ l) (suc b) c e h = fewer_empty l b c e (omega arith)

-- where no bucket is in hand all places are empty
pub all_empty : (l : List (Option BucketContent)) → ((b : ℕ) → bucket_at l b ≡ None) → empty_places l ≡ length l
all_empty [] f = refl
all_empty (None ∷ l) f = let r = all_empty l (λ b. f (suc b)) in omega arith
all_empty (Some x ∷ l) f = absurd (let e = f zero in cc e)

-- a list with one more is one longer
length_snoc : (l : List ℕ) (b : ℕ) → length (l ++ b ∷ []) ≡ length l + 1
length_snoc l b = length-append l (b ∷ [])

-- while a bucket is not in hand there is room in the order for one more
pub hands_room : (id : TableId) (n : ℕ) (w : Hands) (b : ℕ) → AreHands id n w → bucket_at w.hold.places b ≡ None →
    b < length w.hold.places → length w.order.items < vec_capacity w.order
hands_room id n w b a lacks below =
    let some = some_empty w.hold.places b lacks below in
    let count = a.count in
    let room = a.room in
    omega (arith, some, count, room)
  where
    some_empty : (l : List (Option BucketContent)) (b : ℕ) → bucket_at l b ≡ None → b < length l → 0 < empty_places l
    some_empty [] b e h = absurd (omega arith)
    some_empty (None ∷ l) b e h = omega arith
    some_empty (Some x ∷ l) zero e h = absurd (cc e)
    some_empty (Some x ∷ l) (suc b) e h = some_empty l b e (omega arith)

-- the hold after a claim
pub put_in : (m m' : Seated) (places places' : List (Option BucketContent)) (order order' : List ℕ) (b : ℕ)
    (c : BucketContent) → Carries m places order → Carries m' places' order' → m'.0 ≡ claims m.0 b c →
    places' ≡ slice_set places b (Some c)
put_in m m' places places' order order' b c k k' view =
    sym k'.places_are ∙ ap (λ (v : View). v.held) view ∙ ap (λ l. slice_set l b (Some c)) k.places_are

-- hands that claimed a bucket are hands with one more
pub hands_more : (id : TableId) (n : ℕ) (w w' : Hands) (b : ℕ) (c : BucketContent) → AreHands id n w →
    bucket_at w.hold.places b ≡ None → b < length w.hold.places → w'.place.table_id ≡ w.place.table_id →
    w'.place.me.0 ≡ claims w.place.me.0 b c → w'.order.items ≡ w.order.items ++ b ∷ []
    → Carries w'.place.me w'.hold.places w'.order.items → w'.hold.grid ≡ w.hold.grid →
    vec_capacity w'.order ≡ vec_capacity w.order → w'.first ≡ w.first → AreHands id n w'
hands_more id n w w' b c a lacks below seat view order k grid capacity first =
    let put =
    put_in w.place.me w'.place.me w.hold.places w'.hold.places w.order.items w'.order.items b c a.carries k view in
    let one : empty_places w'.hold.places + 1 ≡ empty_places w.hold.places =
    ap (λ l. empty_places l + 1) put ∙ fewer_empty w.hold.places b c lacks below in
    let wide : length w'.hold.places ≡ length w.hold.places = ap length put ∙ length-set w.hold.places b (Some c) in
    let more : length w'.order.items ≡ length w.order.items + 1 = ap length order ∙ length_snoc w.order.items b in
    let count = a.count in
    let room = a.room in
    record {
      table = seat ∙ a.table;
      words = a.words;
      places = wide ∙ a.places;
      some_part = subst (λ (x : ℕ). 0 < x) (sym (ap (λ (v : View). v.parts) view)) a.some_part;
      no_child = ap (λ (v : View). v.child) view ∙ a.no_child;
      first = first ∙ a.first ∙ sym (ap (λ (v : View). v.first) view);
      grid = grid ∙ a.grid ∙ sym (ap (λ (v : View). v.grid) view);
      carries = k;
      count = omega (arith, one, wide, more, count);
      room = omega (arith, wide, capacity, room);
    }

-- where what the pass holds stands for a history, its hold does
pub stands_in : (id : TableId) (n : ℕ) (w : Hands) → AreHands id n w → (h : List Entry) → HandStands w.place.me.0 h →
    Stands w.hold h
stands_in id n w a h st =
    let r : Stands (in_hand_of w.hold.grid w.hold.places) h = subst
    (λ (t : ℕ × List (Option BucketContent)). Stands (in_hand_of t.0 t.1) h)
    (λ i. (sym a.grid i, a.carries.places_are i)) st in
    record { legal = r.legal; keys = r.keys; solid = r.solid; shares = r.shares }

-- and it shows the set that the history leaves
pub shows_in : (id : TableId) (n : ℕ) (w : Hands) → AreHands id n w → (h : List Entry) → HandStands w.place.me.0 h →
    Shows w.hold (replay h)
shows_in id n w a h st = stands_shows w.hold h (stands_in id n w a h st)

-- so it shows some set
pub shows_one : (id : TableId) (n : ℕ) (w : Hands) → AreHands id n w → (h : List Entry) × HandStands w.place.me.0 h →
    ShowsOne w.hold
shows_one id n w a s = (replay s.0, shows_in id n w a s.0 s.1)

-- a claim that failed
pub hands_missed : (id : TableId) (n : ℕ) (w w' : Hands) (b word : ℕ) → AreHands id n w →
    w'.place.table_id ≡ w.place.table_id → w'.place.me ≡ (fails w.place.me.0 b word, w.place.me.1) → w'.hold ≡ w.hold →
    w'.order.items ≡ w.order.items
    → vec_capacity w'.order ≡ vec_capacity w.order → w'.first ≡ w.first → AreHands id n w'
hands_missed id n w w' b word a seat me hold order capacity first =
    let view : w'.place.me.0 ≡ fails w.place.me.0 b word = ap (λ (m : Seated). m.0) me in
    let places : w'.hold.places ≡ w.hold.places = ap (λ (x : InHand). x.places) hold in
    let k = a.carries in
    let wide = ap length places in
    let empty = ap empty_places places in
    let long = ap length order in
    let count = a.count in
    let room = a.room in
    record {
      table = seat ∙ a.table;
      words = a.words;
      places = wide ∙ a.places;
      some_part = subst (λ (x : ℕ). 0 < x) (sym (ap (λ (v : View). v.parts) view)) a.some_part;
      no_child = ap (λ (v : View). v.child) view ∙ a.no_child;
      first = first ∙ a.first ∙ sym (ap (λ (v : View). v.first) view);
      grid = ap (λ (x : InHand). x.grid) hold ∙ a.grid ∙ sym (ap (λ (v : View). v.grid) view);
      carries =
          subst (λ (t : List (Option BucketContent) × List ℕ). Carries w'.place.me t.0 t.1)
          (λ i. (sym places i, sym order i)) (record {
            places_are = ap (λ (v : View). v.held) view ∙ k.places_are;
            order_is =
                ap (λ (v : View). in_hand v.trail) view ∙ in_hand_snoc w.place.me.0.trail (Miss b word) ∙ k.order_is;
            slots = ap (λ (m : Seated). m.1) me ∙ k.slots;
            holds = k.holds;
            once = k.once;
          });
      count = omega (arith, wide, empty, long, count);
      room = omega (arith, wide, capacity, room);
    }

-- ---- one after another

-- claims, and then claims that end with some steps, are claims that end with these
pub claimed_then : (w w' u : Hands) (steps : List Act) → HasClaimed w w' [] → HasClaimed w' u steps →
    HasClaimed w u steps
claimed_then w w' u steps x y =
    let v : View = w.place.me.0 in
    let joined : (v.trail ++ (map Claim x.more ++ [])) ++ (map Claim y.more ++ steps)
    ≡ v.trail ++ (map Claim (x.more ++ y.more) ++ steps) =
    append_assoc v.trail (map Claim x.more ++ []) (map Claim y.more ++ steps)
    ∙ ap (λ (l : List Act). v.trail ++ l) (ap (λ (l : List Act). l ++ (map Claim y.more ++ steps))
    (append-nil (map Claim x.more)) ∙ sym (append_assoc (map Claim x.more) (map Claim y.more) steps)
    ∙ ap (λ (l : List Act). l ++ steps) (sym (map-append Claim x.more y.more))) in
    record {
      more = x.more ++ y.more;
      order = y.order ∙ ap (λ (l : List ℕ). l ++ y.more) x.order ∙ append_assoc w.order.items x.more y.more;
      view = y.view ∙ (λ i. record (x.view i) {
        held = u.hold.places;
        trail =
            (x.view i).trail ++ (map Claim y.more ++ steps);
      }) ∙ (λ i. record v {
        held =
            u.hold.places;
        trail = joined i;
      });
    }

-- the buckets before are among those with one more
more_among : (w w' : Hands) (b : ℕ) (c : BucketContent) → bucket_at w.hold.places b ≡ None →
    w'.hold.grid ≡ w.hold.grid → w'.hold.places ≡ slice_set w.hold.places b (Some c) → AreAmong w.hold w'.hold
more_among w w' b c lacks grid put = record {
  grid = sym grid;
  buckets = λ x u e. dite (ℕ_discrete x b)
      (λ q. absurd (let r = sym (ap (λ (y : ℕ). bucket_at w.hold.places y) q) ∙ e in let z = lacks in cc (r, z)))
      (λ n. ap (λ l. bucket_at l x) put ∙ get_or-set_other w.hold.places b x (Some c) None n ∙ e);
}

-- so after a claim there is more in hand
pub has_more : (id : TableId) (n : ℕ) (w w' : Hands) (b : ℕ) (c : BucketContent) → AreHands id n w → AreHands id n w' →
    bucket_at w.hold.places b ≡ None → w'.place.me.0 ≡ claims w.place.me.0 b c →
    w'.order.items ≡ w.order.items ++ b ∷ [] → (h : List Entry) × HandStands w'.place.me.0 h → HasClaimedMore id n w w'
has_more id n w w' b c a a' lacks view order st =
    let v : View = w.place.me.0 in
    let put = put_in w.place.me w'.place.me w.hold.places w'.hold.places w.order.items w'.order.items b c a.carries
    a'.carries view in
    record {
      hands = a';
      claimed = record {
        more = b ∷ [];
        order = order;
        view = view ∙ (λ i. record v {
          held = (ap (λ l. slice_set l b (Some c)) a.carries.places_are ∙ sym put) i;
          trail = v.trail ++ Claim b ∷ [];
        });
      };
      among = more_among w w' b c lacks (a'.grid ∙ ap (λ (u : View). u.grid) view ∙ sym a.grid) put;
      one = shows_one id n w' a' st;
    }

-- more than more is more
pub more_then : (id : TableId) (n : ℕ) (w w' u : Hands) → HasClaimedMore id n w w' → HasClaimedMore id n w' u →
    HasClaimedMore id n w u
more_then id n w w' u x y = record {
  hands = y.hands;
  claimed = claimed_then w w' u [] x.claimed y.claimed;
  among = record { grid = x.among.grid ∙ y.among.grid; buckets = λ b c e. y.among.buckets b c (x.among.buckets b c e) };
  one = y.one;
}

-- a set that more buckets show is one that fewer of them show
pub shown : (w w' : InHand) (s : List ℕ) → AreAmong w w' → Shows w' s → Shows w s
shown w w' s a sh = fewer_show w w' s a sh

-- ---- where a loop of claims starts

-- nothing was claimed yet
pub more_none : (id : TableId) (n : ℕ) (w : Hands) → AreHands id n w → ShowsOne w.hold → HasClaimedMore id n w w
more_none id n w a one = record {
  hands = a;
  claimed = record {
    more = [];
    order = sym (append-nil w.order.items);
    view = λ i. record w.place.me.0 { held = a.carries.places_are i; trail = sym (append-nil w.place.me.0.trail) i };
  };
  among = record { grid = refl; buckets = λ b c e. e };
  one = one;
}

-- ---- a hold that is as before but for its room

-- hands whose hold has other room are hands
pub hands_with_room :
    (id : TableId) (n : ℕ) (w : Hands) (hold : InHand) (r : Room) → AreHands id n w →
    hold ≡ record w.hold { room = r } →
    AreHands id n (record { place = w.place; hold = hold; order = w.order; first = w.first })
hands_with_room id n w hold r a e =
    subst (λ (h : InHand). AreHands id n (record { place = w.place; hold = h; order = w.order; first = w.first }))
    (sym e) (record {
      table = a.table;
      words = a.words;
      places = a.places;
      some_part = a.some_part;
      no_child = a.no_child;
      first = a.first;
      grid = a.grid;
      carries = a.carries;
      count = a.count;
      room = a.room;
    })

-- with the same claims
pub claimed_with_room :
    (old w : Hands) (hold : InHand) (r : Room) → HasClaimed old w [] → hold ≡ record w.hold { room = r } →
    HasClaimed old (record { place = w.place; hold = hold; order = w.order; first = w.first }) []
claimed_with_room old w hold r k e =
    subst (λ (h : InHand). HasClaimed old (record { place = w.place; hold = h; order = w.order; first = w.first })
    []) (sym e)
    (record { more = k.more; order = k.order; view = k.view })

-- no room was made
pub hands_same :
    (id : TableId) (n : ℕ) (w : Hands) (hold : InHand) → AreHands id n w → hold ≡ w.hold →
    AreHands id n (record { place = w.place; hold = hold; order = w.order; first = w.first })
hands_same id n w hold a e = subst (λ (h : InHand). AreHands id n
    (record { place = w.place; hold = h; order = w.order; first = w.first })) (sym e) a

-- ---- hands that gave all back

-- a pass that carries no bucket holds none
pub holds_nothing : (m : Seated) (places : List (Option BucketContent)) → Carries m places [] → (b : ℕ) →
    bucket_at places b ≡ None
holds_nothing m places k b = none_or (bucket_at places b) (λ s. (k.holds b).0 s)

-- hands that gave back all buckets are hands that hold nothing
pub hands_empty : (id : TableId) (n : ℕ) (w w' : Hands) → AreHands id n w → w'.place.table_id ≡ w.place.table_id →
    HasGivenBack w w' → Carries w'.place.me w'.hold.places [] → w'.order.items ≡ [] → w'.hold.grid ≡ w.hold.grid →
    length w'.hold.places ≡ length w.hold.places → vec_capacity w'.order ≡ vec_capacity w.order →
    w'.first ≡ w.first → AreHands id n w'
hands_empty id n w w' a table back k none grid wide capacity first =
    let view = back.view in
    let empty = all_empty w'.hold.places (holds_nothing w'.place.me w'.hold.places k) in
    let room = a.room in
    record {
      table = table ∙ a.table;
      words = a.words;
      places = wide ∙ a.places;
      some_part = subst (λ (x : ℕ). Prim.Native.Nat.◌<◌ 0 x) (sym (ap (λ (v : View). v.parts) view)) a.some_part;
      no_child = ap (λ (v : View). v.child) view ∙ a.no_child;
      first = first ∙ a.first ∙ sym (ap (λ (v : View). v.first) view);
      grid = grid ∙ a.grid ∙ sym (ap (λ (v : View). v.grid) view);
      carries = subst (λ (l : List ℕ). Carries w'.place.me w'.hold.places l) (sym none) k;
      count = (let l : length w'.order.items ≡ 0 = ap length none in omega (arith, l, empty));
      room = omega (arith, wide, capacity, room);
    }
