-- some links were taken
use Rattle.std.proofs.Common.{length, ◌-◌}
use Rattle.solid_parts.proofs.Climbing.{ClimbSoFar}
use Rattle.solid_parts.proofs.climb.climb_to.Given as goal

abbrev pub invariant-loop-now : goal.invariant-loop-now
invariant-loop-now l = ClimbSoFar l.fn.leads l.leads l.links l.fn.climb l.now

-- each turn takes a link
abbrev pub decreases-loop-now : goal.decreases-loop-now
decreases-loop-now l = length l.links - l.now.next
