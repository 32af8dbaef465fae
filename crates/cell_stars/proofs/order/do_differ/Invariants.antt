use Rattle.cell_stars.proofs.Marked.{AreApartFrom}
use Rattle.cell_stars.proofs.order.do_differ.Given as goal

abbrev pub invariant-loop-k : goal.invariant-loop-k
invariant-loop-k l = AreApartFrom l.list l.k l.marks
