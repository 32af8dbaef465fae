-- the numbers before the place are done
use Rattle.std.proofs.Common.{take}
use Rattle.solid_parts.proofs.Joining.{JoinSoFar}
use Rattle.solid_parts.proofs.groups.join_all.Given as goal

abbrev pub invariant-loop-number : goal.invariant-loop-number
invariant-loop-number l = JoinSoFar l.marks (take l.number-index l.numbers) l.fn.leads l.leads l.first
