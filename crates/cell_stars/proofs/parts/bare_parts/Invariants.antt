use Rattle.std.proofs.Common.{◌≡◌, [], length, ℕ, List}
use Rattle.point_order.specs.Sets.{IsIn}
use Rattle.cell_stars.proofs.parts.bare_parts.Given as goal

abbrev pub invariant-loop : goal.invariant-loop
invariant-loop l = (length l.parts.items ≡ l.counter) × ((v : List (ℕ × ℕ)) → IsIn v l.parts.items → v ≡ [])
