-- the places before this one have their labels
use Rattle.solid_parts.proofs.Leading.{AreFlatTo}
use Rattle.solid_parts.proofs.groups.flatten.Given as goal

abbrev pub invariant-loop-place : goal.invariant-loop-place
invariant-loop-place l = AreFlatTo l.fn.leads l.leads l.place
