use Rattle.std.proofs.Common.{◌≡◌, ◌++◌, take}
use Rattle.cell_stars.proofs.Planned.{freeing, putting}
use Rattle.cell_stars.proofs.planner.changes.Given as goal

abbrev pub invariant-loop-i : goal.invariant-loop-i
invariant-loop-i l = l.list.items ≡ freeing (take l.i-index l.i-items)

abbrev pub invariant-loop-n : goal.invariant-loop-n
invariant-loop-n l = l.list.items ≡ l.initial.list.items ++ putting (take l.n-index l.n-items)
