use Rattle.cell_store.specs.Gathered.{AreGatheredFrom}
use Rattle.cell_store.proofs.hold.Hold.all_cells.Given as goal

abbrev pub invariant-loop-b : goal.invariant-loop-b
invariant-loop-b l = AreGatheredFrom l.self l.b l.list.items
