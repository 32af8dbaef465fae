use Rattle.cell_store.specs.Wholes.{IsPushedWhere}
use Rattle.cell_store.proofs.WholeLaws.{first_touch, lists_in}
use Rattle.cell_store.proofs.whole.push_place.Given as goal

abbrev pub invariant-loop-k : goal.invariant-loop-k
invariant-loop-k l =
    IsPushedWhere (first_touch l.grid l.points l.k) l.place (lists_in l.fn.lists.items) (lists_in l.lists.items)
