-- what is left comes to the same as all
use Rattle.std.proofs.Common.{length}
use Rattle.mesh_reader.specs.Pieces.{LeavesOf}
use Rattle.mesh_reader.proofs.pieces.State.take_lines.Given as goal

abbrev pub invariant-loop-line : goal.invariant-loop-line
invariant-loop-line l = LeavesOf l.fn.self l.fn.bytes l.state l.rest

abbrev pub decreases-loop-line : goal.decreases-loop-line
decreases-loop-line l = length l.rest
