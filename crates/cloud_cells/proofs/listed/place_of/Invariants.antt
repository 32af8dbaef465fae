use Rattle.std.proofs.Common.{◌-◌}
use Rattle.cloud_cells.proofs.listed.place_of.Given as goal

abbrev pub decreases-loop-low : goal.decreases-loop-low
decreases-loop-low l = l.high - l.low
