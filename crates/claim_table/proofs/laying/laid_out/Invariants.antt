use Rattle.std.specs.Prelude.{vec_capacity}
use Rattle.claim_table.specs.Homing.{IsLaying}
use Rattle.claim_table.proofs.laying.laid_out.Given as goal

abbrev pub invariant-loop-b : goal.invariant-loop-b
invariant-loop-b l = IsLaying l.fn.hold l.rest l.slots.items (vec_capacity l.slots) l.b
