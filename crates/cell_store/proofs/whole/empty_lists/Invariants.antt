use Rattle.std.proofs.Common.{◌≡◌, [], length, Vec, Global}
use Rattle.point_order.specs.Sets.{IsIn}
use Rattle.cell_store.proofs.whole.empty_lists.Given as goal

abbrev pub invariant-loop : goal.invariant-loop
invariant-loop g l = (length l.lists.items ≡ l.counter)
    × ((v : Vec g.row.T.Denot Global) → IsIn v l.lists.items → v.items ≡ [])
