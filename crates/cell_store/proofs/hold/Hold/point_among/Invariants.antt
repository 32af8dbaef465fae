use Rattle.std.proofs.Common.{take}
use Rattle.cell_store.specs.Shares.{NoneInHand}
use Rattle.cell_store.proofs.hold.Hold.point_among.Given as goal

abbrev pub invariant-loop-p : goal.invariant-loop-p
invariant-loop-p l = NoneInHand l.self (take l.p-index l.points)
