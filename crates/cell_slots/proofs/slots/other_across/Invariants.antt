use Rattle.std.proofs.Common.{ℕ, ◌<◌}
use Rattle.cell_slots.specs.Nets.{HasNoOther}
use Rattle.cell_slots.proofs.slots.other_across.Given as goal

abbrev pub invariant-loop-i : goal.invariant-loop-i
invariant-loop-i l = (k : ℕ) → k < l.i → HasNoOther l.fn.slots k l.fn.cell l.fn.facet
