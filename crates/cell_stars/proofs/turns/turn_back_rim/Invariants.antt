use Rattle.std.proofs.Common.{◌≡◌}
use Rattle.cell_stars.proofs.turns.turn_back_rim.Given as goal

abbrev pub invariant-loop-k : goal.invariant-loop-k
invariant-loop-k l = l.slots ≡ l.fn.slots
