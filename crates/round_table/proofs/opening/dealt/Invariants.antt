use Rattle.std.proofs.Common.{◌≡◌, ◌++◌, length}
use Rattle.std.specs.Vec.Iter.{into_iter_items, into_iter_len}
use Rattle.round_table.specs.Closed.{IsDealing}
use Rattle.round_table.proofs.opening.dealt.Given as goal

abbrev pub invariant-loop-state : goal.invariant-loop-state
invariant-loop-state g l = (l.yielded ++ into_iter_items l.state-iterator ≡ into_iter_items l.initial.state-iterator)
    × IsDealing l.board.shared.table_id l.board.shared.key l.place.table_id l.place.me.0 l.workers.items l.yielded
    l.number
    × (into_iter_len l.state-iterator ≡ length (into_iter_items l.state-iterator))
