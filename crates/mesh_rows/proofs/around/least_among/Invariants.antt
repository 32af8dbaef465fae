-- the least number so far, and the cells that are left
use Rattle.mesh_rows.proofs.LeastsAround.{SomeLeft}
use Rattle.mesh_rows.proofs.around.least_among.Given as goal

abbrev pub invariant-loop-number : goal.invariant-loop-number
invariant-loop-number l = SomeLeft l.cells l.around l.number-index l.least
