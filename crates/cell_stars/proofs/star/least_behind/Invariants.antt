use Rattle.std.proofs.Common.{take}
use Rattle.cell_stars.proofs.Least.{Found}
use Rattle.cell_stars.proofs.star.least_behind.Given as goal

abbrev pub invariant-loop-i : goal.invariant-loop-i
invariant-loop-i l = Found (λ c. c.now) l.slots (take l.i-index l.star) l.bound l.least
