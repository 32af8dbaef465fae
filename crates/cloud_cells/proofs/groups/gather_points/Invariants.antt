use Rattle.std.proofs.Common.{◌++◌, length}
use Rattle.cell_slots.specs.Nets.{AreMoved}
use Rattle.cloud_cells.proofs.groups.gather_points.Given as goal

abbrev pub invariant-loop-turn : goal.invariant-loop-turn
invariant-loop-turn l = AreMoved (l.initial.waiting.items ++ l.initial.left.items) (l.waiting.items ++ l.left.items)

abbrev pub decreases-loop-turn : goal.decreases-loop-turn
decreases-loop-turn l = length l.left.items
