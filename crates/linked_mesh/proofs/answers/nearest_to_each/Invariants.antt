-- the queries so far have their answers
use Rattle.std.proofs.Common.{take}
use Rattle.edit_history.specs.Histories.{replay}
use Rattle.nearest_points.specs.Points.{AreNear}
use Rattle.linked_mesh.proofs.answers.nearest_to_each.Given as goal

abbrev pub invariant-loop-q : goal.invariant-loop-q
invariant-loop-q l = AreNear (replay l.fn.mesh) (take l.q-index l.queries) l.nears.items
