use Rattle.std.proofs.Common.{take}
use Rattle.cell_stars.specs.Moves.{AreMarked}
use Rattle.cell_stars.proofs.marks.marks_of.Given as goal

abbrev pub invariant-loop-at : goal.invariant-loop-at
invariant-loop-at l = AreMarked l.marks (take l.at l.list)
