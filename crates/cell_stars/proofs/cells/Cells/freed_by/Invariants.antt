use Rattle.cell_stars.proofs.MoveLaws.{FreedSoFar}
use Rattle.cell_stars.proofs.cells.Cells.freed_by.Given as goal

abbrev pub invariant-loop-number : goal.invariant-loop-number
invariant-loop-number l = FreedSoFar l.self l.gone l.number l.freed.items
