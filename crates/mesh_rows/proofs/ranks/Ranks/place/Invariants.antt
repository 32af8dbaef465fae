use Rattle.std.proofs.Common.{◌-◌}
use Rattle.mesh_rows.proofs.ranks.Ranks.place.Given as goal

abbrev pub decreases-loop-low : goal.decreases-loop-low
decreases-loop-low l = l.high - l.low
