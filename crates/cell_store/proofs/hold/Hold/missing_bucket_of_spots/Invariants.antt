use Rattle.std.proofs.Common.{take}
use Rattle.cell_store.specs.Ready.{AreHeld}
use Rattle.cell_store.proofs.hold.Hold.missing_bucket_of_spots.Given as goal

abbrev pub invariant-loop-spot : goal.invariant-loop-spot
invariant-loop-spot l = AreHeld l.self (take l.spot-index l.spots)
