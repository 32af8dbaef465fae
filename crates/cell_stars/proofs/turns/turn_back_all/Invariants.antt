use Rattle.cell_stars.proofs.Turned.{IsBack}
use Rattle.cell_stars.proofs.turns.turn_back_all.Given as goal

abbrev pub invariant-loop-k : goal.invariant-loop-k
invariant-loop-k g l = IsBack l.changes l.fn.changes l.list l.fn.list l.k
