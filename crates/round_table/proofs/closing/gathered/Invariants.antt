use Rattle.std.proofs.Common.{◌≡◌, ◌++◌, length, map, All}
use Rattle.std.specs.Vec.Iter.{into_iter_items, into_iter_len}
use Rattle.round_table.specs.Closed.{opened_as, hand_of}
use Rattle.round_table.specs.Workers.{states_of}
use Rattle.round_table.proofs.closing.gathered.Given as goal

abbrev pub invariant-loop-worker : goal.invariant-loop-worker
invariant-loop-worker g l = (l.yielded ++ into_iter_items l.worker-iterator ≡ into_iter_items l.initial.worker-iterator)
    × (into_iter_len l.worker-iterator ≡ length (into_iter_items l.worker-iterator))
    × All (λ w. w.pass.table ≡ opened_as l.board.shared.table_id l.board.shared.key) (into_iter_items l.worker-iterator)
    × (l.all.table_id ≡ l.board.shared.table_id) × (l.all.me.0.hands ≡ map hand_of l.yielded)
    × (l.states.items ≡ states_of l.yielded)
