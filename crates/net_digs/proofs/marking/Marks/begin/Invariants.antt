use Rattle.std.proofs.Common.{ℕ, ◌<◌, ◌-◌, length}
use Rattle.cell_slots.specs.Marked.{mark_at}
use Rattle.net_digs.proofs.marking.Marks.begin.Given as goal

-- none is marked
abbrev pub invariant-grow : goal.invariant-grow
invariant-grow l = (i : ℕ) → mark_at l.self i < l.self.stamp

abbrev pub decreases-grow : goal.decreases-grow
decreases-grow l = l.slots - length l.self.of
