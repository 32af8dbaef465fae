use Rattle.std.proofs.Common.{◌≡◌, take}
use Rattle.edit_lists.specs.Dealing.{count_in_all, pairs_in}
use Rattle.edit_workers.proofs.running.pair_count.Given as goal

abbrev pub invariant-loop-list : goal.invariant-loop-list
invariant-loop-list l = l.count ≡ count_in_all (pairs_in (take l.list-index l.lists))
