use Rattle.std.proofs.Common.{◌≡◌, ℕ, ◌*◌, ◌<◌, ◌≤◌, length, None, Some}
use Rattle.cell_store.specs.Buckets.{bucket_at, at_place}
use Rattle.insertion.specs.Opening.{bare_bucket}
use Rattle.insertion.proofs.opening.bare_hold.Given as goal

abbrev pub invariant-loop-b : goal.invariant-loop-b
invariant-loop-b l =
    (l.hold.grid ≡ l.fn.grid) × (length l.hold.places ≡ l.fn.grid * l.fn.grid * l.fn.grid)
    × ((k : ℕ) → k < l.b → bucket_at l.hold.places k ≡ Some (at_place l.fn.grid k bare_bucket))
    × ((k : ℕ) → l.b ≤ k → bucket_at l.hold.places k ≡ None)
