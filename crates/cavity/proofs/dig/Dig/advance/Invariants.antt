use Rattle.std.proofs.Common.{◌-◌, length}
use Rattle.cavity.proofs.Advancing.{GoesOn, cells_in_hand}
use Rattle.cavity.proofs.dig.Dig.advance.Given as goal

abbrev pub invariant-loop-cell : goal.invariant-loop-cell
invariant-loop-cell l = GoesOn l.hold l.fn.self (record {
  point = l.self-inside.point;
  found = l.self-inside.judged;
  explored = l.self-inside.explored;
  rim = l.self-inside.rim.items;
})

abbrev pub decreases-loop-cell : goal.decreases-loop-cell
decreases-loop-cell l = length (cells_in_hand l.hold.places) - l.self-inside.explored
