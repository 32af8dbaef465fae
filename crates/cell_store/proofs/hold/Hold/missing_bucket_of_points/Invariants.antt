use Rattle.std.proofs.Common.{take}
use Rattle.cell_store.specs.Missing.{ArePointsHeld}
use Rattle.cell_store.proofs.hold.Hold.missing_bucket_of_points.Given as goal

abbrev pub invariant-loop-p : goal.invariant-loop-p
invariant-loop-p l = ArePointsHeld l.self (take l.p-index l.points)
