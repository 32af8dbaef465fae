-- Lines of what slots hold, slot by slot.
use Rattle.std.proofs.Common.{◌≡◌, ◌∙◌, refl, sym, ℕ, ◌+◌, ◌<◌, ◌≤◌, List, [], ◌∷◌, ◌++◌, ap, length, get_or, drop}
use Rattle.std.specs.Prelude.{Option, None, Some, map, codes, decimal}
use Rattle.std.specs.List.{concat}
use Rattle.std.proofs.lemmas.List.{length-map}
use Rattle.text_sheets.specs.Lines.{block, held_line}
use Rattle.list_laws.specs.Lists.{held}
use Rattle.text_sheets.specs.Sheets.{Puts}
use Rattle.text_sheets.specs.declared.sheet.Sheet.{Sheet}
use Rattle.text_sheets.proofs.Places.{below_end, own_item, past_end}
use Rattle.text_sheets.proofs.Sheets.{IsOfItems, PutsBut, ends, goes_on, starts}

-- the lines of what slots hold
abbrev pub held_text : {X : Type 0} → (X → List ℕ) → List (Option X) → List ℕ
held_text line slots = concat (map line (held slots))

-- the lines of what slots hold are those of the slots, one by one
held_items : {X : Type 0} (line : X → List ℕ) → IsOfItems (held_text line) (held_line line)
held_items line None slots = refl
held_items line (Some x) slots = refl

-- so the lines of slots, some of them empty, are those of what they hold
pub held_lines : {X : Type 0} (line : X → List ℕ) (slots : List (Option X)) →
    concat (map (held_line line) slots) ≡ held_text line slots
held_lines line [] = refl
held_lines line (None ∷ slots) = held_lines line slots
held_lines line (Some x ∷ slots) = ap (λ (v : List ℕ). line x ++ v) (held_lines line slots)

module _ {O : Type 0} {h : O → Option (List ℕ)} {f : O → ℕ} where
  -- the first line of their block was put
  pub held_starts : {X : Type 0} {s t : Sheet O} (title : List ℕ) (line : X →
      List ℕ) (slots : List (Option X)) (n : ℕ) → n ≡ length (held slots) →
      Puts h f s t (title ++ codes " " ++ decimal n ++ codes "\n") →
      PutsBut h f s t (held_text line slots) (block title (map line (held slots)))
  held_starts title line slots n e = starts title (map line (held slots)) n (e ∙ sym (length-map (held slots) line))

  -- one slot more
  pub held_goes_on : {X : Type 0} {s t u : Sheet O} {whole : List ℕ} (line : X →
      List ℕ) (slots : List (Option X)) (i n : ℕ) → i < n → n ≡ length slots →
      PutsBut h f s t (held_text line (drop i slots)) whole → Puts h f t u (held_line line (get_or slots i None)) →
      PutsBut h f s u (held_text line (drop (i + 1) slots)) whole
  held_goes_on line slots i n l e =
      let k : i < length slots = below_end i n (length slots) l e in
      goes_on (held_text line) (held_line line) (held_items line) slots i (get_or slots i None) k
      (own_item None slots i k)

  -- no slot is left
  pub held_ends : {X : Type 0} {s t : Sheet O} {whole : List ℕ} (line : X →
      List ℕ) (slots : List (Option X)) (i n : ℕ) → n ≤ i → n ≡ length slots →
      PutsBut h f s t (held_text line (drop i slots)) whole → Puts h f s t whole
  held_ends line slots i n l e = ends (held_text line) refl slots i (past_end i n (length slots) l e)
