use Rattle.std.specs.Prelude.{◌≡◌, take}
use Rattle.edit_lists.specs.Dealing.{all_of, pairs_in}
use Rattle.edit_workers.proofs.running.all_pairs.Given as goal

abbrev pub invariant-loop-list : goal.invariant-loop-list
invariant-loop-list l = l.pairs.items ≡ all_of (pairs_in (take l.list-index l.lists))
