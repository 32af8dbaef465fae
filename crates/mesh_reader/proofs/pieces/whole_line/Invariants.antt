-- no line feed stands before the index
use Rattle.std.proofs.Common.{take}
use Rattle.mesh_reader.specs.Pieces.{HasNoFeed}
use Rattle.mesh_reader.proofs.pieces.whole_line.Given as goal

abbrev pub invariant-loop-i : goal.invariant-loop-i
invariant-loop-i l = HasNoFeed (take l.i l.bytes)
