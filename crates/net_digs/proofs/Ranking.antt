-- Packed cells that are sorted.
use Rattle.std.specs.Prelude.{◌≡◌, List, [], ◌∷◌, Option, None, Some}
use Rattle.std.specs.List.Sorted.{IsPermutation}
use Rattle.std.proofs.Common.{ap, inl, inr, subst, sym}
use Rattle.std.proofs.lemmas.List.Sorted.{IsPermutation-sym}
use Rattle.list_laws.proofs.Cited.{in_permutation, one_value}
use Rattle.list_laws.specs.Lists.{IsIn}
use Rattle.point_order.specs.declared.cell.Cell.{Cell}
use Rattle.point_order.specs.CellOrder.{AreSameCells}
use Rattle.cell_slots.specs.Nets.{AreMoved, cells_of_slots}

-- one of the cells stands in a slot
live_some : (slots : List (Option Cell)) (q : Cell) → IsIn q (cells_of_slots slots) → IsIn (Some q) slots
live_some [] q m = absurd m
live_some (None ∷ slots) q m = inr (live_some slots q m)
live_some (Some x ∷ slots) q (inl e) = inl (ap (λ (v : Cell). Some v) e)
live_some (Some x ∷ slots) q (inr m) = inr (live_some slots q m)

-- and a cell that does is one of them
some_live : (slots : List (Option Cell)) (q : Cell) → IsIn (Some q) slots → IsIn q (cells_of_slots slots)
some_live [] q m = absurd m
some_live (None ∷ slots) q (inl e) = absurd (cc e)
some_live (None ∷ slots) q (inr m) = some_live slots q m
some_live (Some x ∷ slots) q (inl e) = inl (one_value x q e)
some_live (Some x ∷ slots) q (inr m) = inr (some_live slots q m)

-- the cells are the same when their slots are sorted
pub same_sorted : (l cells : List Cell) (packed sorted : List (Option Cell)) → AreMoved l (cells_of_slots packed) →
    IsPermutation packed sorted → cells ≡ cells_of_slots sorted → AreSameCells l cells
same_sorted l cells packed sorted m p e = subst (λ (v : List Cell). AreSameCells l v) (sym e) (
  λ q i. some_live sorted q (in_permutation packed sorted (Some q) p (live_some packed q ((m.members q).0 i))),
  λ q i. (m.members q).1 (some_live packed q
      (in_permutation sorted packed (Some q) (IsPermutation-sym packed sorted p) (live_some sorted q i))),
)

-- the same once and again
pub same_on : (l m n : List Cell) → AreSameCells l m → AreSameCells m n → AreSameCells l n
same_on l m n a b = (λ q i. b.0 q (a.0 q i), λ q i. a.1 q (b.1 q i))
