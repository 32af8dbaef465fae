use Rattle.std.proofs.Common.{◌≡◌, ◌++◌, length}
use Rattle.std.specs.List.{flat_map}
use Rattle.std.specs.Vec.Iter.{into_iter_items, into_iter_len}
use Rattle.cell_store.proofs.gather.joined.Given as goal

abbrev pub invariant-loop-list : goal.invariant-loop-list
invariant-loop-list l = (l.yielded ++ into_iter_items l.list-iterator ≡ into_iter_items l.initial.list-iterator)
    × (l.cells.items ≡ flat_map (λ list. list.items) l.yielded)
    × (into_iter_len l.list-iterator ≡ length (into_iter_items l.list-iterator))
