-- the queries so far have their answers
use Rattle.std.proofs.Common.{ℕ, List, take}
use Rattle.cell_store.specs.Shares.{Shows}
use Rattle.nearest_points.specs.Points.{AreNear}
use Rattle.near_vertex.proofs.answers.nearest_to_each.Given as goal

abbrev pub invariant-loop-q : goal.invariant-loop-q
invariant-loop-q l = (s : List ℕ) → Shows l.fn.hold s → AreNear s (take l.q-index l.queries) l.nears.items
