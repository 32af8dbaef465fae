-- A whole try, as contracts see it.
use Rattle.std.specs.Prelude.{◌≡◌, ℕ, ◌+◌, ◌-◌, ◌*◌, ◌<◌, List, [], ◌∷◌, ◌++◌, map, reverse, length, Result, Ok, Err}
use Rattle.std.specs.Prelude.{IfOk, IfErr}
use Rattle.std.proofs.Common.{refl, sym, ◌∙◌, ap, subst}
use Rattle.std.proofs.lemmas.List.{append_assoc, append-nil}
use Rattle.std.proofs.lemmas.List.Sorted.{IsPermutation-reverse}
use Rattle.list_laws.specs.Lists.{AreDistinct}
use Rattle.list_laws.proofs.Cited.{some_of, within}
use Rattle.atomic_table.specs.Seated.{TableId}
use Rattle.edit_history.specs.declared.history.Edit.{Edit}
use Rattle.edit_history.specs.declared.history.Entry.{Entry}
use Rattle.edit_history.specs.declared.history.Reply.{Reply}
use Rattle.edit_history.specs.Histories.{replay}
use Rattle.claim_rule.specs.Good.{StartsWith}
use Rattle.cell_store.specs.Buckets.{bucket_at}
use Rattle.cell_store.specs.Touches.{IsTouched}
use Rattle.point_order.specs.Sets.{IsIn}
use Rattle.claim_table.specs.declared.hands.Hands.{Hands}
use Rattle.edit_history.specs.declared.history.Receipt.{Receipt}
use Rattle.grid_claims.specs.declared.refused.Refused.{Refused}
use Rattle.grid_claims.specs.declared.refused.Refused.TheVariants.{Spent, Busy, Memory}
use Rattle.claim_table.specs.declared.view.Act.{Act}
use Rattle.claim_table.specs.declared.view.Act.TheVariants.{Claim, Miss, Commit}
use Rattle.claim_table.specs.declared.view.View.{View}
use Rattle.claim_table.specs.Trails.{AreAllTouched}
use Rattle.grid_claims.specs.Passes.{Opened, Standing, standing}
use Rattle.claim_table.specs.Plays.{entry_of}
use Rattle.grid_claims.specs.Tries.{AreClaimsAround, IsEdited, IsAsBefore, IsRefused, IsStill}
use Rattle.claim_table.specs.Hands.{releases_of, AreHands, HasRest, HasClaimed, HasGivenBack}
use Rattle.grid_claims.specs.Claiming.{HasStopped, IsFinished}
use Rattle.claim_table.proofs.Cited.{rested_hands}

-- so it is with the hands of a pass of a table that is seen so
pub table_hands : (t : Opened) (w : Hands) → HasRest w → (standing w.place.table_id w.place.me.0).table ≡ t →
    t.id.words ≡ t.grid * t.grid * t.grid + 1 → length w.hold.places ≡ w.hold.grid * w.hold.grid * w.hold.grid →
    AreHands t.id (t.grid * t.grid * t.grid) w
table_hands t w r e words places =
    rested_hands t.id (t.grid * t.grid * t.grid) w r (ap (λ (x : Opened). x.id) e) words
    (places ∙ ap (λ (n : ℕ). n * n * n) (r.grid ∙ ap (λ (x : Opened). x.grid) e))

-- hands that held nothing hold just what they claimed
pub claimed_all : (w mid : Hands) (steps : List Act) → w.order.items ≡ [] → (c : HasClaimed w mid steps) →
    mid.order.items ≡ c.more
claimed_all w mid steps none c = c.order ∙ ap (λ (l : List ℕ). l ++ c.more) none

-- what was claimed is released, each bucket once, around what came between
abbrev around : (id : TableId) (n : ℕ) (w mid : Hands) (done : List Act) (middle : List Act) → AreHands id n mid →
    w.order.items ≡ [] → (c : HasClaimed w mid done) → AreClaimsAround middle
    (map Claim c.more ++ middle ++ releases_of c.more)
around id n w mid done middle a none c = record {
  claims = c.more;
  releases = reverse c.more;
  once = subst (λ (l : List ℕ). AreDistinct l) (claimed_all w mid done none c) a.carries.once;
  same = IsPermutation-reverse c.more;
  steps_are = refl;
}

-- claims, a commit and the releases: the edit was made
pub tried_edited : (id : TableId) (n tag number : ℕ) (edit : Edit) (reply : Reply) (w mid u : Hands) →
    0 < w.place.me.0.left → n ≡ w.place.me.0.grid * w.place.me.0.grid * w.place.me.0.grid → AreHands id n w →
    AreHands id n mid → AreHands id n u → w.order.items ≡ [] → HasClaimed w mid [] →
    IsFinished tag edit reply number mid u
    → IsEdited tag edit number reply (standing w.place.table_id w.place.me.0) (standing u.place.table_id u.place.me.0)
tried_edited id n tag number edit reply w mid u some wide a b d none c f =
    let v : View = w.place.me.0 in
    let same : mid.order.items ≡ c.more = claimed_all w mid [] none c in
    let tail : (v.trail ++ (map Claim c.more ++ [])) ++ Commit number ∷ releases_of mid.order.items
    ≡ v.trail ++ (map Claim c.more ++ (Commit number ∷ []) ++ releases_of c.more) =
    append_assoc v.trail (map Claim c.more ++ []) (Commit number ∷ releases_of mid.order.items)
    ∙ ap (λ (l : List Act). v.trail ++ (l ++ Commit number ∷ releases_of mid.order.items))
    (append-nil (map Claim c.more))
    ∙ ap (λ (l : List ℕ). v.trail ++ (map Claim c.more ++ Commit number ∷ releases_of l)) same
    ∙ ap (λ (l : List Act). v.trail ++ l) (sym (append_assoc (map Claim c.more) (Commit number ∷ [])
    (releases_of c.more))) in
    let table : u.place.table_id ≡ w.place.table_id = d.table ∙ sym a.table in
    let view : u.place.me.0 ≡ record v {
      held = u.hold.places;
      left = v.left - 1;
      seen = number + 1;
      made =
          v.made ++ entry_of number v.first tag edit reply ∷ [];
      trail =
          v.trail ++ (map Claim c.more ++ (Commit number ∷ []) ++ releases_of c.more);
    } =
    f.view
    ∙ (λ i. record (c.view i) {
      held = u.hold.places;
      left = (c.view i).left - 1;
      seen = number + 1;
      made =
          (c.view i).made ++ entry_of number (c.view i).first tag edit reply ∷ [];
      trail =
          (c.view i).trail ++ Commit number ∷ releases_of mid.order.items;
    })
    ∙ (λ i. record v {
      held = u.hold.places;
      left = v.left - 1;
      seen = number + 1;
      made = v.made ++ entry_of number v.first tag edit reply ∷ [];
      trail = tail i;
    }) in
    record {
      some_left = some;
      later = subst (λ (x : ℕ). Prim.Native.Nat.◌≤◌ x number) (ap (λ (x : View). x.seen) c.view) f.later;
      few = f.few;
      steps = map Claim c.more ++ (Commit number ∷ []) ++ releases_of c.more;
      around = around id n w mid [] (Commit number ∷ []) b none c;
      below = λ k i. (let x = some_of (bucket_at mid.hold.places k)
          ((b.carries.holds k).1 (subst (λ (l : List ℕ). IsIn k l) (sym same) i)) in
          subst (λ (m : ℕ). k < m) (b.places ∙ wide) (within mid.hold.places k x.0 x.1));
      history = f.history;
      after = record {
        legal = f.legal;
        knows = subst (λ (l : List Entry). StartsWith f.history l) (ap (λ (x : View). x.known) c.view) f.knows;
        count = f.count;
        right = f.right;
        touched = subst (λ (t : ℕ × List ℕ). (b : ℕ) → IsTouched t.0 (replay f.history) edit b → IsIn b t.1)
            (λ i. ((c.view i).grid, same i)) f.touched;
        exact = λ x. subst (λ (t : ℕ × List ℕ). AreAllTouched t.0 (replay f.history) edit t.1)
            (λ i. ((c.view i).grid, same i)) (f.exact x);
      };
      new_is = λ i. standing (table i) (view i);
    }

-- what was claimed is given back: the claims are those of buckets in hand, and so of the table
pub back_as_before :
    (id : TableId) (n : ℕ) (w mid u : Hands) (middle : List Act) →
    n ≡ w.place.me.0.grid * w.place.me.0.grid * w.place.me.0.grid → AreHands id n w → AreHands id n mid →
    AreHands id n u → w.order.items ≡ [] → HasClaimed w mid middle → HasGivenBack mid u →
    IsAsBefore middle (standing w.place.table_id w.place.me.0) (standing u.place.table_id u.place.me.0)
back_as_before id n w mid u middle wide a b d none c back =
    let v : View = w.place.me.0 in
    let same : mid.order.items ≡ c.more = claimed_all w mid middle none c in
    let tail : (v.trail ++ (map Claim c.more ++ middle)) ++ releases_of mid.order.items
    ≡ v.trail ++ (map Claim c.more ++ middle ++ releases_of c.more) =
    append_assoc v.trail (map Claim c.more ++ middle) (releases_of mid.order.items)
    ∙ ap (λ (l : List ℕ). v.trail ++ (map Claim c.more ++ middle ++ releases_of l)) same in
    let table : u.place.table_id ≡ w.place.table_id = d.table ∙ sym a.table in
    let view : u.place.me.0 ≡ record v {
      held = u.hold.places;
      trail = v.trail ++ (map Claim c.more ++ middle ++ releases_of c.more);
    } =
    back.view
    ∙ (λ i. record (c.view i) { held = u.hold.places; trail = (c.view i).trail ++ releases_of mid.order.items })
    ∙ (λ i. record v { held = u.hold.places; trail = tail i }) in
    record {
      steps = map Claim c.more ++ middle ++ releases_of c.more;
      around = around id n w mid middle middle b none c;
      below = λ k i. (
          let x = some_of (bucket_at mid.hold.places k)
          ((b.carries.holds k).1 (subst (λ (l : List ℕ). IsIn k l) (sym same) i)) in
          subst (λ (m : ℕ). k < m) (b.places ∙ wide) (within mid.hold.places k x.0 x.1)
          );
      new_is = λ i. standing (table i) (view i);
    }

-- where the claims stopped and all was given back, the try is refused
pub tried_refused :
    (id : TableId) (n : ℕ) (w mid u : Hands) (why : Refused) → 0 < w.place.me.0.left →
    n ≡ w.place.me.0.grid * w.place.me.0.grid * w.place.me.0.grid → AreHands id n w → AreHands id n mid →
    AreHands id n u → w.order.items ≡ [] → HasStopped w mid why → HasGivenBack mid u →
    IsRefused (standing w.place.table_id w.place.me.0) why (standing u.place.table_id u.place.me.0)
tried_refused id n w mid u Spent some wide a b d none s back = absurd s.others
tried_refused id n w mid u (Busy bucket word) some wide a b d none s back =
    let o = s.others in (
      some,
      record { some_pass = o.0; of_parts = o.2; others = o.1 },
      back_as_before id n w mid u (Miss bucket word ∷ []) wide a b d none s.claimed back,
    )
tried_refused id n w mid u Memory some wide a b d none s back =
    (some, back_as_before id n w mid u [] wide a b d none s.claimed back)

-- ---- whatever the answer is

-- a pass that is as before has its table and its parts
pub still_as : (old new : Standing) (middle : List Act) → IsAsBefore middle old new → IsStill old new
still_as old new middle k = (
  ap (λ (s : Standing). s.table) k.new_is,
  ap (λ (s : Standing). s.first) k.new_is,
  ap (λ (s : Standing). s.parts) k.new_is,
)

-- so has one whose try was refused
still_why : (old new : Standing) (why : Refused) → IsRefused old why new → IsStill old new
still_why old new Spent k =
    (ap (λ (s : Standing). s.table) k.1, ap (λ (s : Standing). s.first) k.1, ap (λ (s : Standing). s.parts) k.1)
still_why old new (Busy bucket word) k = still_as old new (Miss bucket word ∷ []) k.2
still_why old new Memory k = still_as old new [] k.1

-- the pass is of the same table, and owns the same parts
pub still : (old new : Standing) (tag : ℕ) (edit : Edit) (r : Result Receipt Refused) →
    IfOk r (λ x. IsEdited tag edit x.number x.reply old new) → IfErr r (λ why. IsRefused old why new) → IsStill old new
still old new tag edit (Ok x) k n = (
  ap (λ (s : Standing). s.table) k.new_is,
  ap (λ (s : Standing). s.first) k.new_is,
  ap (λ (s : Standing). s.parts) k.new_is,
)
still old new tag edit (Err why) k n = still_why old new why n
