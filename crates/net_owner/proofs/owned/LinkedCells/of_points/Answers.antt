use Rattle.std.proofs.Common.{arith}
use Rattle.cell_slots.proofs.Cited.{few_cells}
use Rattle.net_owner.proofs.owned.LinkedCells.of_points.Goals as goal

pub invariant_of-result : goal.invariant_of-result
invariant_of-result c = let few = few_cells c.in_ok-net.net in omega (arith, few)
