use Rattle.std.proofs.Common.{take}
use Rattle.std.specs.List.{filter}
use Rattle.cell_stars.specs.Places.{lies_in}
use Rattle.cell_stars.proofs.WriteLaws.{NumberedSoFar}
use Rattle.cell_stars.proofs.cells.Cells.turns.Given as goal

abbrev pub invariant-loop-p : goal.invariant-loop-p
invariant-loop-p l = NumberedSoFar l.self (filter (lies_in l.self.place) (take l.p-index l.vertices)) l.least
    l.turns.items
