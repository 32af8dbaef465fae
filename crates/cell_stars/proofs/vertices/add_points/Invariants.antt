use Rattle.list_laws.proofs.Cited.{Gathered}
use Rattle.cell_stars.specs.Gathering.{FromPoint}
use Rattle.cell_stars.proofs.vertices.add_points.Given as goal

abbrev pub invariant-loop-p : goal.invariant-loop-p
invariant-loop-p l = Gathered FromPoint l.p-items l.p-index l.fn.list.items l.list.items
