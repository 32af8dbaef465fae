use Rattle.std.proofs.Common.{sym, subst, ap, ◌∙◌, ℕ, List, map, length}
use Rattle.std.specs.List.Sorted.{IsStrictlySortedBy}
use Rattle.point_order.specs.Sets.{IsIn}
use Rattle.face_list.proofs.Gathering.{all_numbers}
use Rattle.face_list.proofs.gather.gather.Goals as goal

pub keys_of_full-requires-clause-numbers : goal.keys_of_full-requires-clause-numbers
keys_of_full-requires-clause-numbers g c i m =
    c.requires.numbers i ((c.in_order-items.ensures.same i).0
    (subst (λ (l : List (g.row.K.Denot × ℕ)). IsIn i l) c.deref.ensures.value m))

pub returns-clause-gathers : goal.returns-clause-gathers
returns-clause-gathers g c =
    let k = c.in_ok-table.ensures.keys in
    record {
      sorted = c.in_order-items.result.items;
      order = c.in_order-items.ensures.order;
      same = c.in_order-items.ensures.same;
      keys_order = subst (IsStrictlySortedBy g.K.Ord.cmp) (sym k) c.in_ok-keys.ensures.order;
      keys = λ x. rw (k, ← c.deref.ensures.value) (c.in_ok-keys.ensures.keys x);
      lists = rw (k, ← c.deref-2.ensures.value) c.in_ok-table.ensures.lists;
    }

pub returns-clause-table : goal.returns-clause-table
returns-clause-table g c = record {
  ends = c.in_ok-table.ensures.ends ∙ ap length (sym c.in_ok-table.ensures.keys);
  stops = c.in_ok-table.ensures.stops;
  numbers = all_numbers (length c.args.cells.now) c.args.items.items c.in_order-items.result.items
      c.in_ok-table.table.numbers.items c.requires.numbers (λ i m. (c.in_order-items.ensures.same i).0 m)
      (λ n m. subst (λ (l : List (g.row.K.Denot × ℕ)). IsIn n (map (λ i. i.1) l)) c.deref-2.ensures.value
      (c.in_ok-table.ensures.numbers n m));
}
