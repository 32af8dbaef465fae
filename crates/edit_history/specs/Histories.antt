-- Histories of edits: lists of entries, the first first.
use Rattle.std.specs.Prelude.{◌≡◌, ℕ, ◌+◌, List, [], ◌∷◌}
use Rattle.edit_history.specs.declared.history.Edit.{Edit}
use Rattle.edit_history.specs.declared.history.Entry.{Entry}
use Rattle.edit_history.specs.Edits.{reply_to, after}

-- the set that a history leaves of a set
abbrev pub replay_from : List ℕ → List Entry → List ℕ
replay_from s [] = s
replay_from s (e ∷ h) = replay_from (after s e.edit) h

-- the set that a history leaves, from the empty set on
abbrev pub replay : List Entry → List ℕ
replay h = replay_from [] h

-- entries numbered from n on, each with the reply of the set that those before it leave of s
abbrev pub IsLegalFrom : ℕ → List ℕ → List Entry → Type 0
IsLegalFrom n s [] = Unit {0}
IsLegalFrom n s (e ∷ h) = (e.number ≡ n) × (e.reply ≡ reply_to s e.edit) × IsLegalFrom (n + 1) (after s e.edit) h

-- every entry has its place for a number, and the reply of one thread that makes the edits in this order
abbrev pub IsLegal : List Entry → Type 0
IsLegal h = IsLegalFrom 0 [] h

-- the entries that one thread makes of edits with their tags, numbered from n on, where s is there before
abbrev pub entries_from : ℕ → List ℕ → List (ℕ × Edit) → List Entry
entries_from n s [] = []
entries_from n s (line ∷ lines) =
    record { number = n; by = 0; tag = line.0; edit = line.1; reply = reply_to s line.1 }
    ∷ entries_from (n + 1) (after s line.1) lines
