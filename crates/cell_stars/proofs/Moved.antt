-- Exchanges by places.
use Rattle.std.specs.Prelude.{◌≡◌, ℕ, List, [], Option, Some}
use Rattle.std.specs.List.Sorted.{IsStrictlySortedBy}
use Rattle.std.proofs.Common.{inl, inr, sym, ◌∙◌, ap}
use Rattle.point_order.specs.declared.cell.Cell.{Cell}
use Rattle.point_order.specs.CellOrder.{cell_cmp}
use Rattle.point_order.specs.Sets.{IsIn}
use Rattle.del_laws.proofs.Cited.{same_members}
use Rattle.cell_stars.specs.Swaps.{touches, swapped}
use Rattle.cell_stars.specs.Places.{Placed, IsMoved, live, cells_of, touches_in, at_slot}
use Rattle.cell_stars.proofs.CellLaws.{in_withs, withs_new, withs_sorted, swapped_sorted, swapped_from, swapped_new}
use Rattle.cell_stars.proofs.CellLaws.{swapped_kept}
use Rattle.cell_stars.proofs.Least.{live_at, at_live}

-- the cells of places, by their members
pub placed_in : (slots : List (Option Cell)) (i : ℕ) (c : Cell) → at_slot slots i ≡ Some c → IsIn c (cells_of slots)
unfolding cells_of
placed_in slots i c e = withs_new (live slots) [] c (live_at slots i c e)

-- and each of the cells stands at some place
pub in_placed : (slots : List (Option Cell)) (c : Cell) → IsIn c (cells_of slots) → (i : ℕ) × (at_slot slots i ≡ Some c)
unfolding cells_of
in_placed slots c m = elim (in_withs (live slots) [] c m) [ inl k ↦ at_live slots c k | inr k ↦ absurd k ]

-- they are in order, each once
pub placed_sorted : (slots : List (Option Cell)) → IsStrictlySortedBy cell_cmp (cells_of slots)
unfolding cells_of IsStrictlySortedBy
placed_sorted slots = withs_sorted (live slots) [] tt

-- so after an exchange by places the cells are those of the exchange of lists
pub moved_is_swapped : (w : ℕ × ℕ) (gone fresh : List Cell) (old new : Placed) → old.place ≡ Some w →
    IsMoved gone fresh old new → cells_of new.slots ≡ swapped w.0 w.1 gone fresh (cells_of old.slots)
moved_is_swapped w gone fresh old new e m =
    same_members (cells_of new.slots) (swapped w.0 w.1 gone fresh (cells_of old.slots)) (placed_sorted new.slots)
    (swapped_sorted w.0 w.1 gone fresh (cells_of old.slots) (placed_sorted old.slots)) there back
  where
    touches_is : (c : Cell) → touches_in old.place c ≡ touches w.0 w.1 c
    touches_is c = ap (λ o. touches_in o c) e

    there : (c : Cell) → IsIn c (cells_of new.slots) → IsIn c (swapped w.0 w.1 gone fresh (cells_of old.slots))
    there c k =
        let t = in_placed new.slots c k in
        elim (m.only t.0 c t.1) [
          | inl f ↦ swapped_new w.0 w.1 gone fresh (cells_of old.slots) c f.0 (sym (touches_is c) ∙ f.1)
          | inr o ↦ swapped_kept w.0 w.1 gone fresh (cells_of old.slots) c (placed_in old.slots t.0 c o.0)
              (λ i q. o.1 i (touches_is c ∙ q))
        ]

    back : (c : Cell) → IsIn c (swapped w.0 w.1 gone fresh (cells_of old.slots)) → IsIn c (cells_of new.slots)
    back c k = elim (swapped_from w.0 w.1 gone fresh (cells_of old.slots) c k) [
      | inl f ↦ (let t = m.comes c f.0 (touches_is c ∙ f.1) in placed_in new.slots t.0 c t.1)
      | inr o ↦ (let t = in_placed old.slots c o.0 in
          placed_in new.slots t.0 c (m.stays t.0 c t.1 (λ i q. o.1 i (sym (touches_is c) ∙ q))))
    ]
