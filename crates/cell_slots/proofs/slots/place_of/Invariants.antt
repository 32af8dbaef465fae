use Rattle.std.proofs.Common.{◌≢◌, ℕ, ◌<◌, Some}
use Rattle.cell_slots.specs.Nets.{slot_at}
use Rattle.cell_slots.proofs.slots.place_of.Given as goal

abbrev pub invariant-loop-i : goal.invariant-loop-i
invariant-loop-i l = (k : ℕ) → k < l.i → slot_at l.fn.slots k ≢ Some l.fn.cell
