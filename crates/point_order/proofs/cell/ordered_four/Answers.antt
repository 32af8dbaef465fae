use Rattle.std.proofs.Common.{arith}
use Rattle.point_order.proofs.cell.ordered_four.Goals as goal

pub invariant_of-result : goal.invariant_of-result
invariant_of-result c = (omega arith, (omega arith, (omega arith, (tt, tt))))
