use Rattle.std.proofs.Common.{◌≡◌}
use Rattle.cell_stars.proofs.turns.turn_rim.Given as goal

abbrev pub invariant-loop-joint : goal.invariant-loop-joint
invariant-loop-joint l = l.slots ≡ l.fn.slots
