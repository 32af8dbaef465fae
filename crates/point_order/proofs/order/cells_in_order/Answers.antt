use Rattle.std.specs.Prelude.{◌≡◌, ◌+◌, slice_index_or}
use Rattle.std.specs.Ordering.{eq_by_cmp, is_lt}
use Rattle.std.proofs.Common.{refl, sym, ◌∙◌, ap}
use Rattle.std.proofs.lemmas.List.Filters.{dedup_is}
use Rattle.std.proofs.lemmas.Map.Text.{is_eq-slice_cmp}
use Rattle.list_laws.proofs.Cited.{arranged_same, deduped_same, deduped_sorted}
use Rattle.point_order.specs.declared.cell.Cell.{Cell}
use Rattle.point_order.specs.declared.cell.Cell.TheVariants.{Full, Open}
use Rattle.point_order.specs.CellOrder.{cell_cmp}
use Rattle.point_order.specs.contracts.cell.CellPartialEq.TheImpl as by_equality
use Rattle.point_order.proofs.CellOrderLaws.{cell_order, cell_same, cmp_is}
use Rattle.point_order.proofs.order.cells_in_order.Goals as goal

eq_is : (x y : Cell) → by_equality.ghosts.eq x y ≡ eq_by_cmp cell_cmp x y
eq_is (Full q) (Full r) = sym (is_eq-slice_cmp q r)
eq_is (Full q) (Open r) = refl
eq_is (Open q) (Full r) = refl
eq_is (Open q) (Open r) = sym (is_eq-slice_cmp q r)

pub returns-clause-order : goal.returns-clause-order
returns-clause-order c =
    let l = c.sort_unstable.new.self.items in
    deduped_sorted cell_cmp cell_order by_equality.ghosts.eq eq_is l c.dedup.new.self.items
    (λ k d a b. ap is_lt (cmp_is (slice_index_or l (k + 1) d) (slice_index_or l k d))
    ∙ c.sort_unstable.ensures.sorted k d a b) (dedup_is by_equality.ghosts.eq _ _ c.dedup.ensures.filtered)

pub returns-clause-cells : goal.returns-clause-cells
returns-clause-cells c =
    let s = c.sort_unstable.new.self.items in
    let same = arranged_same c.args.cells.items s c.sort_unstable.ensures.permutation in
    let from = deduped_same cell_cmp cell_order cell_same by_equality.ghosts.eq eq_is s c.dedup.new.self.items
    (dedup_is by_equality.ghosts.eq _ _ c.dedup.ensures.filtered) in
    (λ x i. (from x).1 ((same x).1 i), λ x i. (same x).0 ((from x).0 i))
