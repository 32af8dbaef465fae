-- Entries that are made of lines, one after another.
use Rattle.std.specs.Prelude.{◌≡◌, ℕ, suc, ◌+◌, List, [], ◌∷◌, length, Result, Ok, Err, IfOk}
use Rattle.std.proofs.Common.{refl, ap}
use Rattle.edit_history.specs.declared.history.Edit.{Edit}
use Rattle.edit_history.specs.Edits.{after}
use Rattle.edit_history.specs.Histories.{replay_from, entries_from}

-- ---- what lines leave

-- the set that lines leave of a set
abbrev pub set_after : List ℕ → List (ℕ × Edit) → List ℕ
set_after s [] = s
set_after s (line ∷ lines) = set_after (after s line.1) lines

-- there is one entry for each line
pub length_entries : (n : ℕ) (s : List ℕ) (lines : List (ℕ × Edit)) → length (entries_from n s lines) ≡ length lines
length_entries n s [] = refl
length_entries n s (x ∷ lines) = ap suc (length_entries (n + 1) (after s x.1) lines)

-- the entries of lines leave what the lines leave
pub replay_is : (n : ℕ) (s : List ℕ) (lines : List (ℕ × Edit)) → replay_from s (entries_from n s lines)
    ≡ set_after s lines
replay_is n s [] = refl
replay_is n s (x ∷ lines) = replay_is (n + 1) (after s x.1) lines

-- ---- the lines in order, by the places that were found

-- what follows for the value in an `Ok`
pub ok_then : {T E : Type 0} (P Q : T → Type 0) (r : Result T E) → ((x : T) → P x → Q x) → IfOk r P → IfOk r Q
ok_then P Q (Ok x) f h = f x h
ok_then P Q (Err e) f h = tt
