-- the greatest number so far, and the cells that are left
use Rattle.mesh_rows.proofs.LeastsAround.{EachLeft}
use Rattle.mesh_rows.proofs.around.most_among.Given as goal

abbrev pub invariant-loop-number : goal.invariant-loop-number
invariant-loop-number l = EachLeft l.cells l.around l.number-index l.most
