use Rattle.std.proofs.Common.{◌≡◌, take}
use Rattle.std.specs.List.{flat_map}
use Rattle.edit_history.proofs.merging.merge.Given as goal

abbrev pub invariant-loop-list : goal.invariant-loop-list
invariant-loop-list l = l.merged.items ≡ flat_map (λ list. list.items) (take l.list-index l.lists)
