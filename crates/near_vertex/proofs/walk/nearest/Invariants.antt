use Rattle.std.proofs.Common.{◌≡◌, ℕ, List}
use Rattle.cell_store.specs.Shares.{Shows}
use Rattle.near_vertex.specs.Turns.{IsNearWalkIn}
use Rattle.nearest_points.proofs.Cited.{rank}
use Rattle.near_vertex.proofs.walk.nearest.Given as goal

abbrev pub invariant-loop-p : goal.invariant-loop-p
invariant-loop-p l = (l.walk.place ≡ l.fn.q) × ((s : List ℕ) → Shows l.fn.hold s → IsNearWalkIn s l.walk)

abbrev pub decreases-loop-p : goal.decreases-loop-p
decreases-loop-p l = rank l.fn.q l.walk.point
