use Rattle.std.proofs.Common.{◌-◌, length}
use Rattle.cell_stars.specs.Moves.{HasSameStars}
use Rattle.cell_stars.proofs.planner.add_stars.Given as goal

abbrev pub invariant-loop-alloc : goal.invariant-loop-alloc
invariant-loop-alloc l = HasSameStars l.fn.list.items l.list.items

abbrev pub decreases-loop-alloc : goal.decreases-loop-alloc
decreases-loop-alloc l = l.count - length l.list.items
