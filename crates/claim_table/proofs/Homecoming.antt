-- What a closed table has in its slots, and the hold that takes it in hand.
use Rattle.std.specs.Prelude.{◌≡◌, ℕ, zero, suc, ◌+◌, ◌<◌, ◌≤◌, Bool, false, List, [], ◌∷◌, ◌++◌, Option, None, Some}
use Rattle.std.specs.Prelude.{IsSome, length, slice_index_or, slice_set}
use Rattle.std.proofs.Common.{refl, sym, ◌∙◌, ap, subst, inr, arith, get_or-set_other, get_or-set_same, length-set}
use Rattle.std.proofs.Common.{ext_get_or}
use mathlib.Core.Logic.{dite}
use mathlib.Core.Option.{some, some-injective, some-ne-none}
use native.Mathlib.Decide.{ℕ_discrete}
use lib.ListN.{get_elem?}
use Rattle.atomic_table.specs.Table.{Final, Seen}
use Rattle.list_laws.proofs.Cited.{is_there, one_value, within}
use Rattle.edit_history.specs.declared.history.Entry.{Entry}
use Rattle.cell_store.specs.Buckets.{BucketContent, InHand, FitsPlace, bucket_at, at_place}
use Rattle.cell_store.specs.Shares.{Stands, IsShare, share_at}
use Rattle.claim_rule.specs.Boards.{in_hand_of}
use Rattle.claim_rule.specs.Good.{StartsWith}
use Rattle.claim_rule.proofs.Cited.{stands_for}
use Rattle.claim_table.specs.declared.view.Key.{Key}
use Rattle.claim_table.specs.declared.view.View.{View}
use Rattle.claim_table.specs.Faces.{buckets_of, opening_of, plain}
use Rattle.claim_table.specs.Homing.{AllHome, IsGathering}
use Rattle.claim_table.specs.Rule.{Rule}
use Rattle.claim_table.proofs.Claims.{IsAlone, on_board}
use Rattle.claim_table.proofs.Closing.{all_home, all_made}

-- what stands at a place of the slots is found there
pub at_item : (l : List (Option BucketContent)) (i : ℕ) (x : Option BucketContent) → get_elem? l i ≡ some x →
    bucket_at l i ≡ x
at_item [] i x e = absurd (some-ne-none x (sym e))
at_item (y ∷ l) zero x e = some-injective y x e
at_item (y ∷ l) (suc i) x e = at_item l i x e

-- Every bucket is in its slot, and they are those of the opening entries and what the pass has made.
pub record IsHomed (k : Key) (v : View) (slots : List (Option BucketContent)) : Type 0 where
  pub home : AllHome k.grid slots
  pub stands : Stands (in_hand_of k.grid slots) (opening_of k ++ v.made)
  pub known : StartsWith (opening_of k ++ v.made) v.known
  pub seen : v.seen ≤ length (opening_of k ++ v.made)

-- a table that is closed by a pass that holds nothing and owns all parts has every bucket in its slot
pub homed : (k : Key) (id : ℕ) (v : View) (words : List ℕ) (slots : List (Option BucketContent)) →
    length slots ≡ buckets_of k → Final (Seen (Rule k) id v) words slots → 0 < v.parts → v.child ≡ None →
    v.parts ≡ k.parts → ((b : ℕ) → bucket_at v.held b ≡ None) → IsHomed k v slots
homed k id v words slots wide f live lone all nothing =
    let s = f.0 in
    let h = f.1.0.0 in
    let r = f.1.0.1 in
    let a : IsAlone k s id v = record { there = f.1.1; live = live; lone = lone } in
    let is : h ≡ opening_of k ++ v.made = all_made k s h id v r a all in
    let here : (b : ℕ) → b < length slots → bucket_at slots b ≡ Some (share_at k.grid b h) =
    λ b l. at_item slots b (Some (share_at k.grid b h)) (f.4 b (Some (share_at k.grid b h))
    (all_home k s h id b v r a all nothing (omega (arith, l, wide)))) in
    record {
      home = λ b l. (share_at k.grid b h, here b l, refl);
      stands = subst (λ (l : List Entry). Stands (in_hand_of k.grid slots) l) is
          (stands_for k.grid h slots r.good.legal r.good.keys r.good.solid
          (λ b c e. one c (share_at k.grid b h) (sym e ∙ here b (within slots b c e))));
      known = subst (λ (l : List Entry). StartsWith l v.known) is (r.seats id v f.1.1).known;
      seen = subst (λ (l : List Entry). v.seen ≤ length l) is (r.good.passes (plain v) (on_board k s h id v r a)).seen;
    }
  where
    one : (x y : BucketContent) → ◌≡◌ {A = Option BucketContent} (Some x) (Some y) → x ≡ y
    one x y e = cc

-- ---- the loop

-- a bucket that comes next has its number for its place
pub its_place : (before slots : List (Option BucketContent)) (count len : ℕ) (filled : List Bool) (old now : InHand)
    (b : ℕ) (bucket : BucketContent) → IsGathering before slots count len filled old now b → b < length before →
    AllHome old.grid before → get_elem? slots b ≡ some (Some bucket)
    → bucket.place ≡ Some (now.grid, b)
its_place before slots count len filled old now b bucket i l all got =
    let home = all b l in
    let here : bucket_at before b ≡ Some bucket =
    ap (λ s. bucket_at s b) (sym i.slots_are) ∙ at_item slots b (Some bucket) got in
    ap (λ (c : BucketContent). c.place) (sym (one_value home.0 bucket (sym home.1 ∙ here))) ∙ home.2
    ∙ ap (λ (g : ℕ). Some (g, b)) (sym i.grid)

-- so it fits there
pub fits : (before slots : List (Option BucketContent)) (count len : ℕ) (filled : List Bool) (old now : InHand) (b : ℕ)
    (bucket : BucketContent) → IsGathering before slots count len filled old now b → b < length before →
    AllHome old.grid before → get_elem? slots b ≡ some (Some bucket)
    → FitsPlace now.grid b bucket
fits before slots count len filled old now b bucket i l all got =
    inr (its_place before slots count len filled old now b bucket i l all got)

-- with that bucket put into the hold one more has been gathered
pub gathers_on : (before slots slots' : List (Option BucketContent)) (count len len' : ℕ) (filled filled' : List Bool)
    (old now now' : InHand) (b : ℕ) (bucket : BucketContent) → IsGathering before slots count len filled old now b
    → b < length before → count ≡ length before → len ≡ length filled → length old.places ≡ count →
    AllHome old.grid before → get_elem? slots b ≡ some (Some bucket)
    → slots' ≡ slots → filled' ≡ slice_set filled b false → len' ≡ len →
    now' ≡ record now { places = slice_set now.places b (Some (at_place now.grid b bucket)) } →
    IsGathering before slots' count len' filled' old now' (b + 1)
gathers_on before slots slots' count len len' filled filled' old now now' b bucket i l wide marks deep all got
    same_slots marked same_len put =
    let here : bucket_at before b ≡ Some bucket =
    ap (λ s. bucket_at s b) (sym i.slots_are) ∙ at_item slots b (Some bucket) got in
    let place = its_place before slots count len filled old now b bucket i l all got in
    let new : BucketContent = at_place now.grid b bucket in
    let new_is : new ≡ bucket = (λ j. record bucket { place = sym place j }) in
    let len_is = i.len_is in
    let places = i.places in
    let in_marks : b < length filled = omega (arith, l, wide, marks, len_is) in
    let in_places : b < length now.places = omega (arith, l, wide, deep, places) in
    let set : now'.places ≡ slice_set now.places b (Some new) = ap (λ (h : InHand). h.places) put in
    record {
      slots_are = same_slots ∙ i.slots_are;
      len_is = same_len ∙ i.len_is;
      taken = λ k m. ap (λ f. slice_index_or f k false) marked ∙ dite (ℕ_discrete k b)
          (λ e. ap (λ (x : ℕ). slice_index_or (slice_set filled b false) x false) e
          ∙ get_or-set_same filled b false false in_marks)
          (λ n. get_or-set_other filled b k false false n ∙ i.taken k (omega (arith, m, n)));
      full = λ k m d. ap (λ f. slice_index_or f k false) marked
          ∙ get_or-set_other filled b k false false (λ e. let q : k ≡ b = e in omega (arith, m, q))
          ∙ i.full k (omega (arith, m)) d;
      grid = ap (λ (h : InHand). h.grid) put ∙ i.grid;
      places = ap length set ∙ length-set now.places b (Some new) ∙ i.places;
      have = λ k m. ap (λ p. bucket_at p k) set ∙ dite (ℕ_discrete k b)
          (λ e. ap (λ (x : ℕ). bucket_at (slice_set now.places b (Some new)) x) e
          ∙ get_or-set_same now.places b (Some new) None in_places ∙ ap (λ (c : BucketContent). Some c) new_is
          ∙ sym here ∙ ap (λ (x : ℕ). bucket_at before x) (sym e))
          (λ n. get_or-set_other now.places b k (Some new) None n ∙ i.have k (omega (arith, m, n)));
      lack = λ k m. ap (λ p. bucket_at p k) set ∙ get_or-set_other now.places b k (Some new) None
          (λ e. let q : k ≡ b = e in omega (arith, m, q)) ∙ i.lack k (omega (arith, m));
    }

-- once all have been, the hold has what the slots had
pub gathered : (before slots : List (Option BucketContent)) (count len : ℕ) (filled : List Bool) (old now : InHand)
    (b : ℕ) → IsGathering before slots count len filled old now b → count ≡ length before → length old.places ≡ count →
    count ≤ b → now.places ≡ before
gathered before slots count len filled old now b i wide deep all =
    ext_get_or None now.places before (i.places ∙ deep ∙ wide)
    (λ k l. let places = i.places in i.have k (omega (arith, l, places, deep, wide, all)))

-- no slot that comes next is empty
pub not_empty : (before slots : List (Option BucketContent)) (count len : ℕ) (filled : List Bool) (old now : InHand)
    (b : ℕ) → IsGathering before slots count len filled old now b → b < length before → AllHome old.grid before →
    get_elem? slots b ≡ some None → ⊥
not_empty before slots count len filled old now b i l all got =
    let home = all b l in
    let here : bucket_at before b ≡ None = ap (λ s. bucket_at s b) (sym i.slots_are) ∙ at_item slots b None got in
    some_not_none home.0 (sym home.1 ∙ here)
  where
    some_not_none : (c : BucketContent) → ◌≡◌ {A = Option BucketContent} (Some c) None → ⊥
    some_not_none c e = cc e

-- ---- the mesh

-- the last of three
pub last_of : {A B C : Type 0} → A × B × C → C
last_of t = t.2

-- with every slot's bucket in it, all buckets of the hold are in hand
pub all_in_hand : (g : ℕ) (slots places : List (Option BucketContent)) → places ≡ slots → AllHome g slots → (b : ℕ) →
    b < length places → IsSome (bucket_at places b)
all_in_hand g slots places e all =
    subst (λ (l : List (Option BucketContent)). (b : ℕ) → b < length l → IsSome (bucket_at l b)) (sym e)
    (λ b l. let home = all b l in is_there (bucket_at slots b) home.0 home.1)

-- and it stands for the history for which the slots stood
pub stands_so : (g : ℕ) (slots : List (Option BucketContent)) (hold : InHand) (h : List Entry) → hold.grid ≡ g →
    hold.places ≡ slots → Stands (in_hand_of g slots) h → Stands hold h
stands_so g slots hold h grid places st = record {
  legal = st.legal;
  keys = st.keys;
  solid = st.solid;
  shares = subst (λ (t : ℕ × List (Option BucketContent)). (b : ℕ) (c : BucketContent) → bucket_at t.1 b ≡ Some c →
      IsShare t.0 b h c) (λ i. (sym grid i, sym places i)) st.shares;
}
