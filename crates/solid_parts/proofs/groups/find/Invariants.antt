-- a number on the way down, and the one to which it leads
use Rattle.solid_parts.proofs.Leading.{IsOnWay}
use Rattle.solid_parts.proofs.groups.find.Given as goal

abbrev pub invariant-loop-next : goal.invariant-loop-next
invariant-loop-next l = IsOnWay l.fn.leads l.leads l.number l.at l.next

-- each step leads to a lesser number
abbrev pub decreases-loop-next : goal.decreases-loop-next
decreases-loop-next l = l.at
