use Rattle.std.proofs.Common.{ℕ, ◌<◌, take}
use Rattle.point_order.specs.Sets.{IsIn}
use Rattle.cell_stars.proofs.planner.behind_numbers.Given as goal

abbrev pub invariant-loop-i : goal.invariant-loop-i
invariant-loop-i g l = (x : ℕ × g.row.T.Denot) → IsIn x (take l.i-index l.list) → x.0 < l.end
