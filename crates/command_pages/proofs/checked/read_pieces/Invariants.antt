-- the reader has taken what was taken of the source, with so much room left
use Rattle.std.proofs.Common.{◌≤◌}
use Rattle.command_pages.proofs.PiecesRead.{HasRoom}
use Rattle.command_pages.proofs.checked.read_pieces.Given as goal

abbrev pub invariant-loop-room : goal.invariant-loop-room
invariant-loop-room g l = record {
  read : HasRoom (g.S.Source.left l.initial.src) (g.S.Source.left l.src) l.reader l.room;
  later : g.S.Source.faults l.initial.src ≤ g.S.Source.faults l.src;
}

-- each piece has a byte
abbrev pub decreases-loop-room : goal.decreases-loop-room
decreases-loop-room g l = l.room
