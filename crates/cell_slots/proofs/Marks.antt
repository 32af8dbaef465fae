-- The cells of slots.
use Rattle.std.specs.Prelude.{◌≡◌, ◌↔◌, ℕ, List, [], ◌∷◌, ◌++◌, ◌<◌, length, slice_index_or, Option, Some, None}
use Rattle.std.proofs.Common.{append-nil, inl, inr, sym, subst, ◌∙◌}
use Rattle.list_laws.proofs.Cited.{distinct_push, from_append, in_left, in_right, within_list}
use Rattle.list_laws.specs.Lists.{AreDistinct}
use Rattle.point_order.specs.declared.cell.Cell.{Cell}
use Rattle.point_order.specs.Sets.{IsIn}
use Rattle.cell_slots.specs.Nets.{AreMoved, cells_of_slots}
use Rattle.cell_slots.proofs.Nets.{live_append, live_in}

-- the cell of a slot is one of those of all
pub slot_in : (slots : List (Option Cell)) (i : ℕ) (o : Option Cell) (c : Cell) → i < length slots →
    o ≡ slice_index_or slots i o → o ≡ Some c → IsIn c (cells_of_slots slots)
slot_in slots i o c h e s = live_in slots i c (within_list slots i o None h e ∙ s)

-- ---- cells that are moved behind others

-- a cell that stood before others and stands behind them is there still
moved_in : (a b : List Cell) (c q : Cell) → IsIn q ((a ++ c ∷ []) ++ b) ↔ IsIn q (a ++ (b ++ c ∷ []))
moved_in a b c q = (
  λ i. elim (from_append q (a ++ c ∷ []) b i) [
    | inl j ↦ elim (from_append q a (c ∷ []) j) [
      | inl k ↦ in_left q a (b ++ c ∷ []) k
      | inr k ↦ in_right q a (b ++ c ∷ []) (in_right q b (c ∷ []) k)
    ]
    | inr j ↦ in_right q a (b ++ c ∷ []) (in_left q b (c ∷ []) j)
  ],
  λ i. elim (from_append q a (b ++ c ∷ []) i) [
    | inl j ↦ in_left q (a ++ c ∷ []) b (in_left q a (c ∷ []) j)
    | inr j ↦ elim (from_append q b (c ∷ []) j) [
      | inl k ↦ in_right q (a ++ c ∷ []) b k
      | inr k ↦ in_left q (a ++ c ∷ []) b (in_right q a (c ∷ []) k)
    ]
  ],
)

-- and none stands twice
moved_once : (a b : List Cell) (c : Cell) → AreDistinct ((a ++ c ∷ []) ++ b) → AreDistinct (a ++ (b ++ c ∷ []))
moved_once [] b c d = distinct_push b c d.1 d.0
moved_once (x ∷ a) b c d = (λ i. d.0 ((moved_in a b c x).1 i), moved_once a b c d.1)

-- the last slot is moved behind others
pub move_one : (l : List Cell) (left packed : List (Option Cell)) (o : Option Cell) →
    AreMoved l (cells_of_slots (left ++ o ∷ []) ++ cells_of_slots packed)
    → AreMoved l (cells_of_slots left ++ cells_of_slots (packed ++ o ∷ []))
move_one l left packed None m =
    subst (λ (v : List Cell). AreMoved l (cells_of_slots left ++ v))
    (sym (live_append packed (None ∷ []) ∙ append-nil (cells_of_slots packed)))
    (subst (λ (v : List Cell). AreMoved l (v ++ cells_of_slots packed)) (live_append left (None ∷ [])
    ∙ append-nil (cells_of_slots left)) m)
move_one l left packed (Some c) m =
    let k = subst (λ (v : List Cell). AreMoved l (v ++ cells_of_slots packed)) (live_append left (Some c ∷ [])) m in
    subst (λ (v : List Cell). AreMoved l (cells_of_slots left ++ v)) (sym (live_append packed (Some c ∷ []))) (record {
      members = λ q. (
        λ i. (moved_in (cells_of_slots left) (cells_of_slots packed) c q).0 ((k.members q).0 i),
        λ i. (k.members q).1 ((moved_in (cells_of_slots left) (cells_of_slots packed) c q).1 i),
      );
      once = λ d. moved_once (cells_of_slots left) (cells_of_slots packed) c (k.once d);
    })
