-- Lists in order, each element once.
use Rattle.std.specs.Prelude.{◌≡◌, List, [], ◌∷◌}
use Rattle.std.specs.List.Sorted.{IsStrictlySortedBy}
use Rattle.std.specs.declared.cmp.Ordering.TheVariants.{Less}
use Rattle.list_laws.proofs.Cited.{each_by}
use Rattle.point_order.specs.declared.cell.Cell.{Cell}
use Rattle.point_order.specs.CellOrder.{cell_cmp}
use Rattle.point_order.proofs.Cited.{cell_self}
use Rattle.cell_stars.specs.Swaps.{Differ}

-- what is in order differs
pub sorted_differ : (l : List Cell) → IsStrictlySortedBy cell_cmp l → Differ l
unfolding IsStrictlySortedBy
sorted_differ [] s = tt
sorted_differ (c ∷ l) s = (
  λ m. (let t = each_by (λ d. cell_cmp c d ≡ Less) l s.0 c m in let e = cell_self c in
      absurd (cc (t, e))),
  sorted_differ l s.1,
)
