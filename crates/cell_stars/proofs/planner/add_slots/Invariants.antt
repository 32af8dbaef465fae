use Rattle.std.proofs.Common.{◌-◌, length}
use Rattle.cell_stars.specs.Moves.{HasSameCells}
use Rattle.cell_stars.proofs.planner.add_slots.Given as goal

abbrev pub invariant-loop-list : goal.invariant-loop-list
invariant-loop-list l = HasSameCells l.fn.list.items l.list.items

abbrev pub decreases-loop-list : goal.decreases-loop-list
decreases-loop-list l = l.count - length l.list.items
