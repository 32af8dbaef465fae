use Rattle.std.proofs.Common.{◌≡◌, take}
use Rattle.net_digs.proofs.grow.cells_of.Given as goal

abbrev pub invariant-loop-spot : goal.invariant-loop-spot
invariant-loop-spot l = l.cells.items ≡ take l.spot-index l.spots
