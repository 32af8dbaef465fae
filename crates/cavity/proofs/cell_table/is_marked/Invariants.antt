use Rattle.cavity.proofs.Tables.{ArePassed}
use Rattle.cavity.proofs.cell_table.is_marked.Given as goal

abbrev pub invariant-loop-at : goal.invariant-loop-at
invariant-loop-at l = ArePassed l.marks l.home l.goes l.cell l.at
