use Rattle.std.proofs.Common.{◌≡◌, ℕ, Some, take}
use Rattle.point_order.specs.Sets.{IsIn}
use Rattle.cell_stars.specs.Places.{at_slot}
use Rattle.cell_stars.proofs.slots.place_among.Given as goal

abbrev pub invariant-loop-i : goal.invariant-loop-i
invariant-loop-i l = (i : ℕ) → IsIn i (take l.i-index l.star) → at_slot l.slots i ≡ Some l.cell → ⊥
