-- The cells in slots are looked for in a list, one after another.
use Rattle.std.specs.Prelude.{◌≡◌, refl, ℕ, ◌+◌, ◌<◌, ◌≤◌, List, [], ◌∷◌, ◌++◌, length, take, Option, None, Some}
use Rattle.std.specs.Prelude.{slice_index_or}
use Rattle.std.proofs.Common.{append-nil, arith, ap, inl, inr, sym, subst, ◌∙◌}
use Rattle.std.proofs.lemmas.List.{length-append, take_all}
use Rattle.list_laws.proofs.Cited.{from_append, take_next}
use Rattle.point_order.specs.declared.cell.Cell.{Cell}
use Rattle.point_order.specs.Sets.{IsIn}
use Rattle.cell_slots.specs.Nets.{cells_of_slots}
use Rattle.cell_slots.proofs.Cited.{live_append}

-- the cells of some slots are listed, and are so many
pub record AreFound (l : List Cell) (slots : List (Option Cell)) (n : ℕ) : Type 0 where
  pub among : (q : Cell) → IsIn q (cells_of_slots slots) → IsIn q l
  pub count : n ≡ length (cells_of_slots slots)

-- of no slot
pub none_found : (l : List Cell) → AreFound l [] 0
none_found l = record { among = λ q i. absurd i; count = refl }

module _ (l : List Cell) (slots : List (Option Cell)) (i n : ℕ) (o : Option Cell) (h : i < length slots)
    (e : o ≡ slice_index_or slots i o) (f : AreFound l (take i slots) n) where
  -- the cells of one slot more
  next_live : cells_of_slots (take (i + 1) slots) ≡ cells_of_slots (take i slots) ++ cells_of_slots (o ∷ [])
  next_live = ap cells_of_slots (take_next slots i o h e) ∙ live_append (take i slots) (o ∷ [])

  -- a free slot
  pub free_slot : o ≡ None → AreFound l (take (i + 1) slots) n
  free_slot z =
      let same : cells_of_slots (take (i + 1) slots) ≡ cells_of_slots (take i slots) =
      next_live ∙ ap (λ (v : Option Cell). cells_of_slots (take i slots) ++ cells_of_slots (v ∷ [])) z
      ∙ append-nil (cells_of_slots (take i slots)) in
      record {
        among = λ q m. f.among q (subst (λ (v : List Cell). IsIn q v) same m);
        count = f.count ∙ ap (λ (v : List Cell). length v) (sym same);
      }

  -- a slot with a cell that is listed
  pub cell_slot : (c : Cell) → o ≡ Some c → IsIn c l → AreFound l (take (i + 1) slots) (n + 1)
  cell_slot c z m =
      let more : cells_of_slots (take (i + 1) slots) ≡ cells_of_slots (take i slots) ++ c ∷ [] =
      next_live ∙ ap (λ (v : Option Cell). cells_of_slots (take i slots) ++ cells_of_slots (v ∷ [])) z in
      record {
        among = λ q j. elim (from_append q (cells_of_slots (take i slots)) (c ∷ [])
            (subst (λ (v : List Cell). IsIn q v) more j)) [
              | inl k ↦ f.among q k
              | inr k ↦ elim k [ inl g ↦ subst (λ (v : Cell). IsIn v l) g m | inr none ↦ absurd none ]
            ];
        count = (let k = f.count in let a = length-append (cells_of_slots (take i slots)) (c ∷ []) in
            let b : length (cells_of_slots (take (i + 1) slots)) ≡ length (cells_of_slots (take i slots) ++ c ∷ []) =
            ap (λ (v : List Cell). length v) more in omega (arith, k, a, b));
      }

-- of all slots
pub all_found : (l : List Cell) (slots : List (Option Cell)) (i n : ℕ) → length slots ≤ i →
    AreFound l (take i slots) n → AreFound l slots n
all_found l slots i n h f = subst (λ (v : List (Option Cell)). AreFound l v n) (take_all i slots h) f
