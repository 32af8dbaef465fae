-- as many places as the loop has made, and nothing at any
use Rattle.std.proofs.Common.{◌≡◌, ℕ, None, length}
use Rattle.solid_parts.specs.Gathered.{place_at}
use Rattle.solid_parts.proofs.gathering.no_places.Given as goal

abbrev pub invariant-loop-index : goal.invariant-loop-index
invariant-loop-index l = (length l.places.items ≡ l.index) × ((m : ℕ) → place_at l.places.items m ≡ None)
