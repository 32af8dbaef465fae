use Rattle.std.proofs.Common.{[]}
use Rattle.list_laws.proofs.Cited.{Gathered}
use Rattle.cell_stars.specs.AtOnce.{FromCellHere}
use Rattle.cell_stars.proofs.at_once.vertices_here.Given as goal

abbrev pub invariant-loop-cell : goal.invariant-loop-cell
invariant-loop-cell l = Gathered (FromCellHere l.grid l.number) l.cells l.cell-index [] l.list.items
