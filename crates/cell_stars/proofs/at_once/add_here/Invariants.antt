use Rattle.list_laws.proofs.Cited.{Gathered}
use Rattle.cell_stars.specs.AtOnce.{StandsHere}
use Rattle.cell_stars.proofs.at_once.add_here.Given as goal

abbrev pub invariant-loop-p : goal.invariant-loop-p
invariant-loop-p l = Gathered (StandsHere l.grid l.number) l.p-items l.p-index l.fn.list.items l.list.items
