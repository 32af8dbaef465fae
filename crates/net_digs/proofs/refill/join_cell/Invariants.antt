use Rattle.std.proofs.Common.{◌≡◌}
use Rattle.net_digs.proofs.refill.join_cell.Given as goal

abbrev pub invariant-loop-facet : goal.invariant-loop-facet
invariant-loop-facet l = (l.net ≡ l.initial.net) × (l.number ≡ l.facet-index)
