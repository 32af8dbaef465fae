use Rattle.std.proofs.Common.{◌≡◌, length, vec_capacity}
use Rattle.claim_table.specs.Hands.{IsGivingBack}
use Rattle.claim_table.proofs.hands.release_all.Given as goal

abbrev pub invariant-loop-place : goal.invariant-loop-place
invariant-loop-place l =
    (l.place.table_id ≡ l.initial.place.table_id) × (l.place.id ≡ l.initial.place.id)
    × (l.hold.grid ≡ l.initial.hold.grid) × (length l.hold.places ≡ length l.initial.hold.places)
    × (vec_capacity l.order ≡ vec_capacity l.initial.order) × IsGivingBack l.initial.place.me l.initial.order.items
    l.place.me l.hold l.order.items

abbrev pub decreases-loop-place : goal.decreases-loop-place
decreases-loop-place l = length l.order.items
