-- The Full cells of a list: their order, and which they are.
use Rattle.std.proofs.Common.{◌≡◌, ℕ, inl, inr, ap, sym, List, [], ◌∷◌}
use Rattle.std.specs.List.{AllByRecursion}
use Rattle.std.specs.List.Sorted.{IsStrictlySortedBy}
use Rattle.std.specs.Ordering.{nat_cmp}
use Rattle.std.specs.Cmp.Lexicographic.{slice_cmp}
use Rattle.std.specs.declared.cmp.Ordering.TheVariants.{Less}
use Rattle.point_order.specs.declared.cell.Cell.{Cell}
use Rattle.point_order.specs.declared.cell.Cell.TheVariants.{Full, Open}
use Rattle.point_order.specs.CellOrder.{cell_cmp}
use Rattle.point_order.specs.Complex.{complex}
use Rattle.del_laws.proofs.Cited.{complex_is_sorted, not_both_kinds, same_full}
use Rattle.face_list.specs.Faces.{full_cells}
use Rattle.face_list.specs.Laws.{FullCellsInOrder, FullCellIsListed, ListedIsFullCell, FullCellsOfComplex}

-- what is below all cells is below the Full ones
all_full : (q : List ℕ) (cells : List Cell) → AllByRecursion (λ z. cell_cmp (Full q) z ≡ Less) cells →
    AllByRecursion (λ r. slice_cmp nat_cmp q r ≡ Less) (full_cells cells)
all_full q [] a = tt
all_full q (Full r ∷ cells) a = (a.0, all_full q cells a.1)
all_full q (Open t ∷ cells) a = all_full q cells a.1

-- the law FullCellsInOrder
pub full_cells_in_order : FullCellsInOrder
unfolding IsStrictlySortedBy
full_cells_in_order [] s = tt
full_cells_in_order (Full q ∷ cells) s = (all_full q cells s.0, full_cells_in_order cells s.1)
full_cells_in_order (Open t ∷ cells) s = full_cells_in_order cells s.1

-- the law FullCellsOfComplex
pub full_cells_of_complex : FullCellsOfComplex
full_cells_of_complex s a = full_cells_in_order (complex s) (complex_is_sorted s a)

-- the law FullCellIsListed
pub full_cell_is_listed : FullCellIsListed
full_cell_is_listed [] q m = absurd m
full_cell_is_listed (Full r ∷ cells) q m = elim m
    [ inl e ↦ inl (same_full r q e) | inr i ↦ inr (full_cell_is_listed cells q i) ]
full_cell_is_listed (Open t ∷ cells) q m = elim m
    [ inl e ↦ absurd (not_both_kinds q t (sym e)) | inr i ↦ full_cell_is_listed cells q i ]

-- the law ListedIsFullCell
pub listed_is_full_cell : ListedIsFullCell
listed_is_full_cell [] q m = absurd m
listed_is_full_cell (Full r ∷ cells) q m = elim m
    [ inl e ↦ inl (ap Full e) | inr i ↦ inr (listed_is_full_cell cells q i) ]
listed_is_full_cell (Open t ∷ cells) q m = inr (listed_is_full_cell cells q m)
