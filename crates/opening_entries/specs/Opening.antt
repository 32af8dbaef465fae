-- The entries of four independent points, with which every mesh begins.
use Rattle.std.specs.Prelude.{◌≡◌, ℕ, ◌+◌, false, List, [], ◌∷◌}
use Rattle.point_order.specs.Orientation.{is_flat}
use Rattle.edit_history.specs.declared.history.Edit.TheVariants.{Add}
use Rattle.edit_history.specs.declared.history.Entry.{Entry}
use Rattle.edit_history.specs.declared.history.Reply.TheVariants.{Inserted}

-- the entry of a point that one thread inserts, with its tag
abbrev pub inserted : ℕ → ℕ × ℕ → Entry
inserted number line = record { number = number; by = 0; tag = line.0; edit = Add line.1; reply = Inserted }

-- the entries of points, numbered from n on, that one thread inserts
abbrev pub inserted_from : ℕ → List (ℕ × ℕ) → List Entry
inserted_from n [] = []
inserted_from n (line ∷ lines) = inserted n line ∷ inserted_from (n + 1) lines

-- the history that begins with these points, each with its tag
abbrev pub opening_history : List (ℕ × ℕ) → List Entry
opening_history four = inserted_from 0 four

-- the points are four, and independent
abbrev pub AreFourIndependent : List (ℕ × ℕ) → Type 0
AreFourIndependent (a ∷ b ∷ c ∷ d ∷ []) = is_flat a.1 b.1 c.1 d.1 ≡ false
AreFourIndependent _ = ⊥
