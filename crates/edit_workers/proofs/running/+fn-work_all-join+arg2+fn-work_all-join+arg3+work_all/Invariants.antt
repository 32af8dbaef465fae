use Rattle.std.proofs.Common.{length}
use Rattle.edit_workers.proofs.running.+fn-work_all-join+arg2+fn-work_all-join+arg3+work_all.Given as goal

abbrev pub decreases-join+arg2 : goal.decreases-join+arg2
decreases-join+arg2 g l = length l.low.now

abbrev pub decreases-join+arg3 : goal.decreases-join+arg3
decreases-join+arg3 g l = length l.high.now

abbrev pub decreases-work_all : goal.decreases-work_all
decreases-work_all g l = length l.lists.now
