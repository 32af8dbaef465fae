-- The entry of an edit comes next in the history of a good board, and changes only what the edit touches.
use Rattle.std.specs.Prelude.{◌≡◌, ℕ, List, [], ◌∷◌, ◌++◌}
use Rattle.std.proofs.Common.{refl, sym, subst}
use Rattle.point_order.specs.declared.cell.Cell.{Cell}
use Rattle.point_order.specs.Complex.{complex}
use Rattle.point_order.specs.Sets.{IsIn}
use Rattle.edit_history.specs.declared.history.Edit.{Edit}
use Rattle.edit_history.specs.declared.history.Entry.{Entry}
use Rattle.edit_history.specs.Edits.{HasKeys, after}
use Rattle.edit_history.specs.Histories.{replay}
use Rattle.edit_history.proofs.Cited.{leaves_set}
use Rattle.hole_laws.specs.Edits.{IsSolidSet}
use Rattle.cell_store.specs.Swaps.{without_cells}
use Rattle.cell_store.specs.Shares.{IsSound, share_at}
use Rattle.cell_store.specs.Changes.{IsNext}
use Rattle.cell_changes.specs.Changes.{IsChange}
use Rattle.cell_store.specs.Touches.{IsTouched}
use Rattle.cell_store.proofs.Cited.{all_out, left_out, next_entry, share_outside}
use Rattle.claim_rule.specs.Boards.{BoardState}
use Rattle.claim_rule.specs.Good.{IsGood}
use Rattle.claim_rule.specs.Events.{entry_after}

-- the history of a good board leaves a solid set of keys
pub set_of : (s : BoardState) (h : List Entry) → IsGood s h → IsSolidSet (replay h)
set_of s h good = record { set = record { ascending = leaves_set h; keys = good.keys }; solid = good.solid }

-- so it is sound
pub sound : (s : BoardState) (h : List Entry) → IsGood s h → IsSound h
sound s h good = record { legal = good.legal; set = set_of s h good }

-- the cells of one list that are none of another, both ways
pub both_out : (s t gone fresh : List Cell) → gone ≡ without_cells t s → fresh ≡ without_cells s t →
    IsChange s t gone fresh
both_out s t gone fresh g f = record {
  went = λ c i. left_out s t c (subst (λ (l : List Cell). IsIn c l) g i);
  all_gone = λ c i n. subst (λ (l : List Cell). IsIn c l) (sym g) (all_out s t c i n);
  came = λ c i. left_out t s c (subst (λ (l : List Cell). IsIn c l) f i);
  all_fresh = λ c i n. subst (λ (l : List Cell). IsIn c l) (sym f) (all_out t s c i n);
}

-- the entry of an edit is next
pub next_of : (s : BoardState) (h : List Entry) (by tag : ℕ) (edit : Edit) (gone fresh : List Cell) → IsGood s h →
    HasKeys edit → IsChange (complex (replay h)) (complex (after (replay h) edit)) gone fresh →
    IsNext h (entry_after h s.ticket by tag edit) gone fresh
next_of s h by tag edit gone fresh good key change =
    next_entry h (entry_after h s.ticket by tag edit) gone fresh (sound s h good) key
    (record { number = good.ticket; reply = refl; change = change })

-- so the history with it is legal, and leaves a solid set of keys
pub some_next : (s : BoardState) (h : List Entry) (by tag : ℕ) (edit : Edit) → IsGood s h → HasKeys edit
    → IsNext h (entry_after h s.ticket by tag edit) (without_cells (complex (after (replay h) edit))
    (complex (replay h))) (without_cells (complex (replay h)) (complex (after (replay h) edit)))
some_next s h by tag edit good key =
    next_of s h by tag edit _ _ good key (both_out (complex (replay h)) (complex (after (replay h) edit)) _ _ refl refl)

-- a bucket that the edit does not touch keeps its share
pub stays_outside : (s : BoardState) (h : List Entry) (b number by tag : ℕ) (edit : Edit) → IsGood s h → HasKeys edit →
    ¬ (IsTouched s.grid (replay h) edit b) → share_at s.grid b (h ++ entry_after h number by tag edit ∷ [])
    ≡ share_at s.grid b h
stays_outside s h b number by tag edit good key apart =
    share_outside s.grid b h (entry_after h number by tag edit) (set_of s h good) key apart
