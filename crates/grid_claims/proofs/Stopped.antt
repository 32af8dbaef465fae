-- Tries that stop.
use Rattle.std.specs.Prelude.{◌≡◌, ◌⊎◌, ℕ, List, ◌+◌, ◌<◌, ◌≤◌, []}
use Rattle.std.proofs.Common.{sym, ap, subst}
use Rattle.atomic_table.specs.Seated.{TableId}
use Rattle.cell_store.specs.Buckets.{InHand}
use Rattle.claim_table.specs.declared.hands.Hands.{Hands}
use Rattle.claim_table.specs.declared.view.Act.{Act}
use Rattle.claim_table.specs.declared.view.View.{View}
use Rattle.claim_table.specs.Hands.{HasClaimed, HasClaimedMore}
use Rattle.claim_table.proofs.Cited.{claimed_then}
use Rattle.grid_claims.specs.Claiming.{HasStopped, HasOthersWord, last_step}
use Rattle.grid_claims.specs.declared.refused.Refused.{Refused}
use Rattle.grid_claims.specs.declared.refused.Refused.TheVariants.{Spent, Busy, Memory}

-- no word of the pass's own
pub others_still : (w w' : Hands) (steps : List Act) (why : Refused) → HasClaimed w w' steps →
    HasOthersWord w'.place.me.0 why → HasOthersWord w.place.me.0 why
others_still w w' steps Spent c o = o
others_still w w' steps (Busy bucket word) c o =
    let first : w'.place.me.0.first ≡ w.place.me.0.first = ap (λ (v : View). v.first) c.view in
    let parts : w'.place.me.0.parts ≡ w.place.me.0.parts = ap (λ (v : View). v.parts) c.view in
    let all : w'.place.me.0.all ≡ w.place.me.0.all = ap (λ (v : View). v.all) c.view in (
      o.0,
      subst (λ (t : ℕ × ℕ). (word ≤ t.0) ⊎ (t.0 + t.1 < word)) (λ i. (first i, parts i)) o.1,
      subst (λ (x : ℕ). word ≤ x) all o.2,
    )
others_still w w' steps Memory c o = tt

-- a try that claims more and then stops has stopped
pub stopped_then : (id : TableId) (n : ℕ) (w w' u : Hands) (why : Refused) → HasClaimedMore id n w w' →
    HasStopped w' u why →
    HasStopped w u why
stopped_then id n w w' u why x y = record {
  claimed = claimed_then w w' u (last_step why) x.claimed y.claimed;
  others = others_still w w' [] why x.claimed y.others;
}

-- so has one that claims more and then lacks memory
pub out_of_memory : (id : TableId) (n : ℕ) (w w' : Hands) → HasClaimedMore id n w w' → HasStopped w w' Memory
out_of_memory id n w w' x = record { claimed = x.claimed; others = tt }

-- where no room was made the try has stopped for want of memory
pub no_room_made :
    (id : TableId) (n : ℕ) (old w : Hands) (hold : InHand) → HasClaimedMore id n old w → hold ≡ w.hold →
    HasStopped old (record { place = w.place; hold = hold; order = w.order; first = w.first }) Memory
no_room_made id n old w hold m e =
    subst (λ (h : InHand). HasStopped old (record { place = w.place; hold = h; order = w.order; first = w.first })
    Memory) (sym e) (out_of_memory id n old w m)
