use Rattle.std.proofs.Common.{length}
use Rattle.cell_stars.proofs.stock.Stock.keep_stars.Given as goal

abbrev pub decreases-loop-around : goal.decreases-loop-around
decreases-loop-around l = length l.stars.items
