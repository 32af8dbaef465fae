-- a front of the points was appended
use Rattle.std.proofs.Common.{◌≡◌, ◌++◌, take}
use Rattle.mesh_check.specs.Text.{places_text}
use Rattle.mesh_check.proofs.text.put_places.Given as goal

abbrev pub invariant-loop-point : goal.invariant-loop-point
invariant-loop-point l = l.text.items ≡ l.initial.text.items ++ places_text l.indices (take l.point-index l.points)
