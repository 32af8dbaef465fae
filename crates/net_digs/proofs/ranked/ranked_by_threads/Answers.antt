use Rattle.std.proofs.Common.{ap, length, subst, sym, ◌∙◌, List, Option}
use Rattle.std.specs.List.Sorted.{IsPermutation}
use Rattle.point_order.specs.declared.cell.Cell.{Cell}
use Rattle.cell_slots.specs.Nets.{cells_of_slots}
use Rattle.cell_slots.proofs.Cited.{written_back}
use Rattle.net_digs.proofs.Ranking.{same_sorted}
use Rattle.net_digs.proofs.ranked.ranked_by_threads.Goals as goal

pub returns : goal.returns
returns g c =
    let packed = c.in_ok-packed.packed.items in
    let sorted = c.par_sort_unstable_by_key.new.s in
    let back = written_back _ packed sorted (sym (ap length c.deref_mut.ensures.value) ∙ c.deref_mut.ensures.len)
    (c.par_sort_unstable_by_key.ensures.len ∙ c.deref_mut.ensures.len) in
    same_sorted (cells_of_slots c.args.net) c.in_ok-cells.cells.items packed sorted c.in_ok-packed.ensures
    (subst (λ (v : List (Option Cell)). IsPermutation v sorted) c.deref_mut.ensures.value
    c.par_sort_unstable_by_key.ensures.permutation)
    (c.in_ok-cells.ensures ∙ ap cells_of_slots (c.deref.ensures.value ∙ back))
