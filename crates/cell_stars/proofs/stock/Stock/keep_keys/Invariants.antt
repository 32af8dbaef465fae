use Rattle.std.proofs.Common.{length}
use Rattle.cell_stars.proofs.stock.Stock.keep_keys.Given as goal

abbrev pub decreases-loop-part : goal.decreases-loop-part
decreases-loop-part l = length l.parts.items
