use Rattle.std.proofs.Common.{take}
use Rattle.point_order.specs.Sets.{IsIn}
use Rattle.point_order.proofs.order.has_cell.Given as goal

abbrev pub invariant-loop-other : goal.invariant-loop-other
invariant-loop-other l = ¬ (IsIn l.cell (take l.other-index l.cells))
