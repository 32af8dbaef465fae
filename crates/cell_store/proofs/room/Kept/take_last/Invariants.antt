use Rattle.std.proofs.Common.{length}
use Rattle.cell_store.proofs.room.Kept.take_last.Given as goal

abbrev pub decreases-loop-item : goal.decreases-loop-item
decreases-loop-item l = length l.plans.items
