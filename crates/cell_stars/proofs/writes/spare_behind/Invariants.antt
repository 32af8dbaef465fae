use Rattle.std.proofs.Common.{◌≤◌, ◌-◌, length}
use Rattle.cell_stars.proofs.writes.spare_behind.Given as goal

abbrev pub invariant-loop-n : goal.invariant-loop-n
invariant-loop-n l = l.first ≤ l.n

abbrev pub decreases-loop-n : goal.decreases-loop-n
decreases-loop-n l = length l.stars - l.n
