use Rattle.std.proofs.Common.{◌≡◌, ◌≤◌, length, vec_capacity}
use Rattle.std.specs.Mem.Slots.{slots_items, slots_filled, slots_len}
use Rattle.round_table.specs.Closed.{IsEmptying}
use Rattle.round_table.specs.Rule.{contents_of}
use Rattle.round_table.proofs.closing.what_is_left.Given as goal

abbrev pub invariant-loop-b : goal.invariant-loop-b
invariant-loop-b g l = (l.closed.words ≡ l.initial.closed.words)
    × (length (contents_of l.fn.board.shared.key) ≤ vec_capacity l.rest)
    × IsEmptying (slots_items l.initial.closed.words) (slots_items l.closed.words) (slots_items l.initial.closed.slots)
    (slots_items l.closed.slots) (slots_len l.initial.closed.slots) (slots_len l.closed.slots)
    (slots_filled l.closed.slots) (contents_of l.fn.board.shared.key) l.rest.items l.b
