-- Lists of cells in which each stands once.
use Rattle.std.specs.Prelude.{◌≡◌, Bool, true, false, List, [], ◌∷◌}
use Rattle.std.specs.List.{IsDistinct, AllByRecursion}
use Rattle.std.specs.List.Sorted.{IsStrictlySortedBy}
use Rattle.std.specs.Ordering.{eq_by_cmp}
use Rattle.std.specs.Cmp.{IsEquivalence, eq_by_cmp_equiv}
use Rattle.std.proofs.Common.{sym, subst, inl, inr}
use Rattle.std.proofs.lemmas.Map.Keys.{IsDistinct-from_sorted}
use Rattle.list_laws.specs.Lists.{AreDistinct}
use Rattle.list_laws.proofs.Cited.{not_both}
use Rattle.point_order.proofs.Cited.{cell_order}
use Rattle.point_order.specs.declared.cell.Cell.{Cell}
use Rattle.point_order.specs.CellOrder.{cell_cmp}
use Rattle.point_order.specs.Sets.{IsIn}

-- a list whose members a test tells apart has each once
apart_once : (e : Cell → Cell → Bool) → ((x : Cell) → e x x ≡ true) → (xs : List Cell) → IsDistinct e xs →
    AreDistinct xs
unfolding IsDistinct
apart_once e r [] d = tt
apart_once e r (x ∷ xs) d = (apart xs d.0, apart_once e r xs d.1)
  where
    apart : (ys : List Cell) → AllByRecursion (λ y. e x y ≡ false) ys → IsIn x ys → ⊥
    apart [] a m = m
    apart (y ∷ ys) a (inl q) = not_both (e x y) (subst (λ z. e x z ≡ true) (sym q) (r x)) a.0
    apart (y ∷ ys) a (inr m) = apart ys a.1 m

-- being the same by their order is an equivalence of cells
same : IsEquivalence (eq_by_cmp cell_cmp)
same = eq_by_cmp_equiv cell_order

-- so a list in order has
pub sorted_once : (xs : List Cell) → IsStrictlySortedBy cell_cmp xs → AreDistinct xs
sorted_once xs o = apart_once (eq_by_cmp cell_cmp) same.refl xs (IsDistinct-from_sorted cell_cmp xs o)
