use Rattle.std.proofs.Common.{length}
use Rattle.worked_cases.proofs.beside.+fn-write_all-join+arg2+fn-write_all-join+arg3+write_all.Given as goal

abbrev pub decreases-join+arg2 : goal.decreases-join+arg2
decreases-join+arg2 g l = length l.low.now

abbrev pub decreases-join+arg3 : goal.decreases-join+arg3
decreases-join+arg3 g l = length l.high.now

abbrev pub decreases-write_all : goal.decreases-write_all
decreases-write_all g l = length l.lists.now
