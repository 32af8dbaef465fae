-- Edits that one worker makes of a history, one after another.
use Rattle.std.specs.Prelude.{◌≡◌, ℕ, suc, ◌+◌, ◌<◌, List, [], ◌∷◌, ◌++◌, length, drop}
use Rattle.std.specs.List.{enumerate_from}
use Rattle.std.proofs.Common.{sym, ◌∙◌, ap, arith, get_or, length-append, drop-cons}
use Rattle.std.proofs.lemmas.List.{append_assoc}
use Rattle.edit_history.specs.declared.history.Edit.{Edit}
use Rattle.edit_history.specs.declared.history.Entry.{Entry}
use Rattle.edit_history.specs.Edits.{reply_to}
use Rattle.edit_history.specs.Histories.{entries_from, replay}
use Rattle.edit_history.proofs.Cited.{replay_more}
use Rattle.linked_mesh.specs.Applied.{edited}
use Rattle.edit_workers.specs.Alone.{with_edits}

-- the first of some edits is made, and then the others
first_made : (h : List Entry) (tag : ℕ) (edit : Edit) (edits : List Edit) →
    with_edits (edited h tag edit) (tag + 1) edits ≡ with_edits h tag (edit ∷ edits)
first_made h tag edit edits =
    let e : Entry = record { number = length h; by = 0; tag = tag; edit = edit; reply = reply_to (replay h) edit } in
    let n : length (h ++ e ∷ []) ≡ length h + 1 = length-append h (e ∷ []) in
    append_assoc h (e ∷ [])
    (entries_from (length (h ++ e ∷ [])) (replay (h ++ e ∷ [])) (enumerate_from (tag + 1) edits))
    ∙ (λ i. h ++ e ∷ entries_from (n i) (replay_more [] h e i) (enumerate_from (tag + 1) edits))

-- what is made with the edits from the place on is made with those behind it, once that of the place is made
pub made_next : (edits : List Edit) (n : ℕ) (x : Edit) (h new made : List Entry) (tag : ℕ) → n < length edits →
    x ≡ get_or edits n x → with_edits h tag (drop n edits) ≡ made → new ≡ edited h tag x →
    with_edits new (tag + 1) (drop (n + 1) edits) ≡ made
made_next edits n x h new made tag b e m f =
    let up : n + 1 ≡ suc n = omega arith in
    (λ i. with_edits (f i) (tag + 1) (drop (up i) edits))
    ∙ first_made h tag x (drop (suc n) edits)
    ∙ ap (λ (y : Edit). with_edits h tag (y ∷ drop (suc n) edits)) e
    ∙ ap (with_edits h tag) (sym (drop-cons edits n x b)) ∙ m

-- it is one entry more
pub count_next : (h new : List Entry) (tag : ℕ) (x : Edit) → new ≡ edited h tag x → length new ≡ length h + 1
count_next h new tag x f =
    ap length f ∙ length-append h (entries_from (length h) (replay h) ((tag, x) ∷ []))
