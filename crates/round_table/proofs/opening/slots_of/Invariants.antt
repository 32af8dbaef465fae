use Rattle.std.proofs.Common.{◌≡◌, ◌++◌, length, map, Some}
use Rattle.std.specs.Vec.Iter.{into_iter_items, into_iter_len}
use Rattle.round_table.proofs.opening.slots_of.Given as goal

abbrev pub invariant-loop-content : goal.invariant-loop-content
invariant-loop-content g l =
    (l.yielded ++ into_iter_items l.content-iterator ≡ into_iter_items l.initial.content-iterator)
    × (l.slots.items ≡ map Some l.yielded)
    × (into_iter_len l.content-iterator ≡ length (into_iter_items l.content-iterator))
