use Rattle.std.proofs.Common.{◌≡◌, ◌⊎◌, ℕ, None}
use Rattle.point_order.specs.Sets.{IsIn}
use Rattle.cell_stars.specs.Places.{at_slot}
use Rattle.cell_stars.proofs.vacant.likely_places.Given as goal

abbrev pub invariant-loop-i : goal.invariant-loop-i
invariant-loop-i l = (i : ℕ) → IsIn i l.list.items → IsIn i l.freed ⊎ (at_slot l.slots i ≡ None)
