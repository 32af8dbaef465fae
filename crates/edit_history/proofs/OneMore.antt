-- Histories with one entry more.
use Rattle.std.specs.Prelude.{◌≡◌, ℕ, ◌+◌, ◌<◌, List, [], ◌∷◌, ◌++◌, length}
use Rattle.std.proofs.Common.{refl, ap, inl, inr, arith}
use Rattle.point_order.specs.Sets.{IsIn}
use Rattle.edit_history.specs.declared.history.Entry.{Entry}
use Rattle.edit_history.specs.Edits.{reply_to, after}
use Rattle.edit_history.specs.Histories.{replay_from, IsLegalFrom}

-- what it leaves
pub replay_more : (s : List ℕ) (h : List Entry) (e : Entry) → replay_from s (h ++ e ∷ [])
    ≡ after (replay_from s h) e.edit
replay_more s [] e = refl
replay_more s (d ∷ h) e = replay_more (after s d.edit) h e

-- it is legal with the next number and the reply of what was left
pub legal_more :
    (n : ℕ) (s : List ℕ) (h : List Entry) (e : Entry) → IsLegalFrom n s h → e.number ≡ n + length h →
    e.reply ≡ reply_to (replay_from s h) e.edit → IsLegalFrom n s (h ++ e ∷ [])
legal_more n s [] e l number reply = (omega (arith, number), reply, tt)
legal_more n s (d ∷ h) e l number reply =
    (l.0, l.1, legal_more (n + 1) (after s d.edit) h e l.2 (omega (arith, number)) reply)

-- the number of each entry is below the length
pub number_below :
    (n : ℕ) (s : List ℕ) (h : List Entry) (e : Entry) → IsLegalFrom n s h → IsIn e h → e.number < n + length h
number_below n s [] e l i = absurd i
number_below n s (d ∷ h) e l (inl q) =
    let k : d.number ≡ e.number = ap (λ (x : Entry). x.number) q in let m = l.0 in omega arith
number_below n s (d ∷ h) e l (inr j) = let r = number_below (n + 1) (after s d.edit) h e l.2 j in omega arith
