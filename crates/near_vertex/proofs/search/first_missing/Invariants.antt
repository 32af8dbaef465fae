use Rattle.std.proofs.Common.{ℕ, IsSome, ◌<◌, ◌+◌, ◌%◌}
use Rattle.cell_store.specs.Buckets.{bucket_at}
use Rattle.near_vertex.proofs.search.first_missing.Given as goal

abbrev pub invariant-loop-steps : goal.invariant-loop-steps
invariant-loop-steps l = (i : ℕ) → i < l.steps → IsSome (bucket_at l.fn.hold.places ((l.first + i) % l.count))
