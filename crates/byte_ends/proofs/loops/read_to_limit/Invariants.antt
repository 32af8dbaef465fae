use Rattle.std.proofs.Common.{◌≡◌, ◌+◌, ◌-◌, ◌≤◌, vec_len}
use Rattle.byte_ends.specs.Ends.{TakesInto}
use Rattle.byte_ends.proofs.loops.read_to_limit.Given as goal

-- what was taken stands in the vector, and with the room that is left it makes the limit
abbrev pub invariant-loop-room : goal.invariant-loop-room
invariant-loop-room g l =
    TakesInto (g.S.Source.left l.initial.source) (g.S.Source.left l.source) l.initial.bytes.items l.bytes.items
    (l.limit - l.room)
    × (vec_len l.bytes + l.room ≡ vec_len l.initial.bytes + l.limit)
    × (l.room ≤ l.limit)
    × (g.S.Source.faults l.initial.source ≤ g.S.Source.faults l.source)

-- each turn takes a byte
abbrev pub decreases-loop-room : goal.decreases-loop-room
decreases-loop-room g l = l.room
