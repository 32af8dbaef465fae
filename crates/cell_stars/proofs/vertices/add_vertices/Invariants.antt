use Rattle.list_laws.proofs.Cited.{Gathered}
use Rattle.cell_stars.specs.Gathering.{FromCell}
use Rattle.cell_stars.proofs.vertices.add_vertices.Given as goal

abbrev pub invariant-loop-cell : goal.invariant-loop-cell
invariant-loop-cell l = Gathered FromCell l.cells l.cell-index l.fn.list.items l.list.items
