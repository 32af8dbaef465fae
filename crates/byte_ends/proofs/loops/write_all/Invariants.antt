use Rattle.std.proofs.Common.{◌≡◌, ℕ, List, ◌≤◌, ◌++◌, length}
use Rattle.std.specs.Io.KnownBytes.{Appends}
use Rattle.byte_ends.proofs.loops.write_all.Given as goal

-- what comes before the rest was written, and the count of faults has not fallen
abbrev pub invariant-loop-rest : goal.invariant-loop-rest
invariant-loop-rest g l =
    ((front : List ℕ) × (l.text ≡ front ++ l.rest) × Appends (g.O.Sink.holds l.initial.out) (g.O.Sink.holds l.out)
    front)
    × (g.O.Sink.faults l.initial.out ≤ g.O.Sink.faults l.out)

-- each turn writes a byte
abbrev pub decreases-loop-rest : goal.decreases-loop-rest
decreases-loop-rest g l = length l.rest
