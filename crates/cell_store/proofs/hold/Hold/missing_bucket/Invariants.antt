use Rattle.std.proofs.Common.{take}
use Rattle.cell_store.specs.Ready.{AreHeld}
use Rattle.cell_store.proofs.hold.Hold.missing_bucket.Given as goal

abbrev pub invariant-loop-cell : goal.invariant-loop-cell
invariant-loop-cell l = AreHeld l.self (take l.cell-index l.cells)
