-- The mesh of a cloud, and what an edit makes of a history.
use Rattle.std.specs.Prelude.{◌≡◌, ℕ, List, [], ◌∷◌, ◌++◌, length}
use Rattle.std.proofs.Common.{◌∙◌, ap}
use Rattle.edit_history.specs.declared.history.Edit.{Edit}
use Rattle.edit_history.specs.declared.history.Entry.{Entry}
use Rattle.edit_history.specs.declared.history.Reply.{Reply}
use Rattle.edit_history.specs.Edits.{after, reply_to}
use Rattle.edit_history.specs.Histories.{replay}
use Rattle.edit_history.proofs.Cited.{replay_more}
use Rattle.linked_mesh.specs.Applied.{edited}

-- the history with the entry of an edit
pub entered : (h : List Entry) (tag : ℕ) (edit : Edit) (n : ℕ) (reply : Reply) (e : Entry) → n ≡ length h →
    reply ≡ reply_to (replay h) edit → e ≡ record { number = n; by = 0; tag = tag; edit = edit; reply = reply } →
    h ++ e ∷ [] ≡ edited h tag edit
entered h tag edit n reply e k r is =
    ap (λ (x : Entry). h ++ x ∷ []) (is ∙ (λ i. record { number = k i; by = 0; tag = tag; edit = edit; reply = r i }))

-- and what it leaves
pub entered_leaves : (h : List Entry) (tag : ℕ) (edit : Edit) (n : ℕ) (reply : Reply) (e : Entry) → n ≡ length h →
    reply ≡ reply_to (replay h) edit → e ≡ record { number = n; by = 0; tag = tag; edit = edit; reply = reply } →
    replay (h ++ e ∷ []) ≡ after (replay h) edit
entered_leaves h tag edit n reply e k r is = replay_more [] h e ∙ ap (λ (x : Entry). after (replay h) x.edit) is
