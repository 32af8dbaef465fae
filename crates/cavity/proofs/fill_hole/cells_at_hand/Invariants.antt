use Rattle.std.proofs.Common.{◌≡◌, take}
use Rattle.cavity.proofs.fill_hole.cells_at_hand.Given as goal

abbrev pub invariant-loop-spot : goal.invariant-loop-spot
invariant-loop-spot l = l.cells.items ≡ take l.spot-index l.spots
