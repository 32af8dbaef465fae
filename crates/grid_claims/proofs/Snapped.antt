-- A whole snapshot, as contracts see it.
use Rattle.std.specs.Prelude.{◌≡◌, ℕ, ◌*◌, List, [], ◌∷◌, ◌++◌, map, reverse, length, Result, Ok, Err, IfOk, IfErr}
use Rattle.std.specs.List.{range_with_len}
use Rattle.std.proofs.Common.{sym, ◌∙◌, ap, subst, arith}
use Rattle.std.proofs.lemmas.List.{append_assoc, append-nil}
use Rattle.std.proofs.lemmas.List.Sorted.{IsPermutation-reverse}
use Rattle.atomic_table.specs.Seated.{TableId}
use Rattle.point_order.specs.declared.cell.Cell.{Cell}
use Rattle.edit_history.specs.declared.history.Entry.{Entry}
use Rattle.claim_rule.specs.Boards.{made_by}
use Rattle.claim_rule.specs.Good.{StartsWith}
use Rattle.claim_table.specs.declared.hands.Hands.{Hands}
use Rattle.grid_claims.specs.declared.snapshot.Snapshot.{Snapshot}
use Rattle.grid_claims.specs.declared.refused.Refused.{Refused}
use Rattle.grid_claims.specs.declared.refused.Refused.TheVariants.{Spent, Busy, Memory}
use Rattle.claim_table.specs.declared.view.Act.{Act}
use Rattle.claim_table.specs.declared.view.Act.TheVariants.{Claim, Miss, Look}
use Rattle.claim_table.specs.declared.view.View.{View}
use Rattle.grid_claims.specs.Passes.{Standing, standing}
use Rattle.grid_claims.specs.Tries.{IsShown, IsStill, IsUnshown}
use Rattle.claim_table.specs.Hands.{releases_of, AreHands, HasGivenBack}
use Rattle.grid_claims.specs.Claiming.{HasStopped}
use Rattle.claim_table.specs.Showing.{HasClaimedAll, AreListsOf, HasLooked}
use Rattle.grid_claims.proofs.Trying.{back_as_before, claimed_all, still_as}

-- every bucket claimed, the lists copied, one look and all given back: the snapshot is shown
pub snapshot_shown : (id : TableId) (n found : ℕ) (entries : List Entry) (cells : List Cell) (w mid u : Hands) →
    AreHands id n w → AreHands id n mid → AreHands id n u → w.order.items ≡ [] →
    n ≡ w.place.me.0.grid * w.place.me.0.grid * w.place.me.0.grid
    → HasClaimedAll w mid → AreListsOf mid.hold entries cells → HasLooked found mid u
    → IsShown entries cells (standing w.place.table_id w.place.me.0) (standing u.place.table_id u.place.me.0)
snapshot_shown id n found entries cells w mid u a b d none cube all lists f =
    let v : View = w.place.me.0 in
    let c = all.claimed in
    let h : List Entry = f.history in
    let same = lists h f.stands in
    let every : List ℕ = range_with_len 0 (v.grid * v.grid * v.grid) in
    let order : mid.order.items ≡ every = all.order ∙ ap (range_with_len 0) (b.places ∙ cube) in
    let claims : c.more ≡ every = sym (claimed_all w mid [] none c) ∙ order in
    let tail : (v.trail ++ (map Claim c.more ++ [])) ++ Look found ∷ releases_of mid.order.items
    ≡ v.trail ++ (map Claim every ++ Look (length h) ∷ releases_of every) =
    append_assoc v.trail (map Claim c.more ++ []) (Look found ∷ releases_of mid.order.items)
    ∙ ap (λ (l : List Act). v.trail ++ (l ++ Look found ∷ releases_of mid.order.items)) (append-nil (map Claim c.more))
    ∙ (λ i. v.trail ++ (map Claim (claims i) ++ Look (sym f.count i) ∷ releases_of (order i))) in
    let table : u.place.table_id ≡ w.place.table_id = d.table ∙ sym a.table in
    let view : u.place.me.0 ≡ record v {
      held = u.hold.places;
      seen = length h;
      known = h;
      trail = v.trail ++ (map Claim every ++ Look (length h) ∷ releases_of every);
    } =
    f.view
    ∙ (λ i. record (c.view i) {
      held = u.hold.places;
      seen = found;
      known = h;
      trail = (c.view i).trail ++ Look found
          ∷ releases_of mid.order.items;
    })
    ∙ (λ i. record v { held = u.hold.places; seen = sym f.count i; known = h; trail = tail i }) in
    let seen : mid.place.me.0.seen ≡ v.seen = ap (λ (x : View). x.seen) c.view in
    let later = f.later in
    let count = f.count in
    subst (λ (l : List Entry). IsShown l cells (standing w.place.table_id w.place.me.0)
    (standing u.place.table_id u.place.me.0)) (sym same.0) (record {
      legal = f.stands.legal;
      cells_are = same.1;
      knows = subst (λ (l : List Entry). StartsWith h l) (ap (λ (x : View). x.known) c.view) f.knows;
      later = omega (arith, seen, later, count);
      own = subst (λ (x : View). x.made ≡ made_by x.first x.parts (length x.opening) h) c.view f.own;
      releases = reverse every;
      all = IsPermutation-reverse every;
      new_is = λ i. standing (table i) (view i);
    })

-- where the claims stopped and all was given back, the snapshot is not shown
pub tried_unshown :
    (id : TableId) (n : ℕ) (w mid u : Hands) (why : Refused) →
    n ≡ w.place.me.0.grid * w.place.me.0.grid * w.place.me.0.grid → AreHands id n w → AreHands id n mid →
    AreHands id n u → w.order.items ≡ [] → HasStopped w mid why → HasGivenBack mid u →
    IsUnshown (standing w.place.table_id w.place.me.0) why (standing u.place.table_id u.place.me.0)
tried_unshown id n w mid u Spent wide a b d none s back = s.others
tried_unshown id n w mid u (Busy bucket word) wide a b d none s back =
    let o = s.others in (
      record { some_pass = o.0; of_parts = o.2; others = o.1 },
      back_as_before id n w mid u (Miss bucket word ∷ []) wide a b d none s.claimed back,
    )
tried_unshown id n w mid u Memory wide a b d none s back =
    back_as_before id n w mid u [] wide a b d none s.claimed back

-- ---- whatever the answer is

-- a snapshot that is not shown leaves the pass with its table and its parts
still_why : (old new : Standing) (why : Refused) → IsUnshown old why new → IsStill old new
still_why old new Spent k = absurd k
still_why old new (Busy bucket word) k = still_as old new (Miss bucket word ∷ []) k.1
still_why old new Memory k = still_as old new [] k

-- the pass is of the same table, and owns the same parts
pub still_snapped : (old new : Standing) (r : Result Snapshot Refused) →
    IfOk r (λ s. IsShown s.history.items s.complex.items old new) → IfErr r (λ why. IsUnshown old why new) →
    IsStill old new
still_snapped old new (Ok s) k n = (
  ap (λ (x : Standing). x.table) k.new_is,
  ap (λ (x : Standing). x.first) k.new_is,
  ap (λ (x : Standing). x.parts) k.new_is,
)
still_snapped old new (Err why) k n = still_why old new why n
