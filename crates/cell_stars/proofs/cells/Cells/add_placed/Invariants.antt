use Rattle.cell_stars.specs.Adding.{AddsPlaces}
use Rattle.cell_stars.proofs.AddLaws.{Put}
use Rattle.cell_stars.proofs.cells.Cells.add_placed.Given as goal

abbrev pub invariant-loop-i : goal.invariant-loop-i
invariant-loop-i l = AddsPlaces (Put l.placed l.i-index) l.fn.writes.items l.writes.items
