-- Edits that are made in a part of a complex: some of its cells become others, whatever the cells beside them are.
use Rattle.std.specs.Prelude.{◌≡◌, ℕ, false, List, [], ◌∷◌, ◌++◌}
use Rattle.point_order.specs.declared.cell.Cell.{Cell}
use Rattle.point_order.specs.Sets.{IsIn, is_among}
use Rattle.edit_history.specs.declared.history.Edit.{Edit}
use Rattle.edit_history.specs.declared.history.Reply.{Reply}
use Rattle.edit_history.specs.Edits.{after, arrived, changed, edit_points, point_of, reply_to, share_point}
use Rattle.cell_slots.specs.Clouds.{AreCellsOf}

-- a line, which is a tag and an edit
abbrev pub Line : Type 0
Line = ℕ × Edit

-- a line that was made, with the reply to it
abbrev pub Made : Type 0
Made = Line × Reply

-- ---- in a set

-- each has the reply of the set that those before it leave of s
abbrev pub AreAnswered : List ℕ → List Made → Type 0
AreAnswered s [] = Unit {0}
AreAnswered s (m ∷ made) = (m.1 ≡ reply_to s m.0.1) × AreAnswered (after s m.0.1) made

-- the set that they leave
abbrev pub set_after : List ℕ → List Made → List ℕ
set_after s [] = s
set_after s (m ∷ made) = set_after (after s m.0.1) made

-- ---- what is known of a set, as long as a part of it is in hand: which of the points of some edits are there

-- the two lists have the same of the points of the edit
abbrev pub AgreeAt : List ℕ → List ℕ → Edit → Type 0
AgreeAt known s edit = (q : ℕ) → IsIn q (edit_points edit) → is_among q known ≡ is_among q s

-- and of those of each line
abbrev pub AgreeOnLines : List ℕ → List ℕ → List Line → Type 0
AgreeOnLines known s lines = (line : Line) → IsIn line lines → AgreeAt known s line.1

-- and of those of each line that was made
abbrev pub AgreeOn : List ℕ → List ℕ → List Made → Type 0
AgreeOn known s made = (m : Made) → IsIn m made → AgreeAt known s m.0.1

-- what is known after an edit with that reply
abbrev pub known_by : List ℕ → Edit → Reply → List ℕ
known_by known edit reply = changed (arrived known edit reply) (point_of edit) reply

-- and after all of them
abbrev pub known_after : List ℕ → List Made → List ℕ
known_after known [] = known
known_after known (m ∷ made) = known_after (known_by known m.0.1 m.1) made

-- ---- in a part

-- The lines make the cells old into the cells new: whatever others there are, where old and the others are the cells of
-- a set of which that is known, each line has the reply of the set that those before it leave, and new and the same
-- others are the cells of the set that they all leave.
abbrev pub AreMade : List ℕ → List Made → List Cell → List Cell → Type 0
AreMade known made old new =
    (others : List Cell) (s : List ℕ) → AreCellsOf s (old ++ others) → AgreeOn known s made →
    AreAnswered s made × AreCellsOf (set_after s made) (new ++ others)

-- ---- side by side

-- no line of the one shares a point with one of the other
abbrev pub ShareNone : List Made → List Made → Type 0
ShareNone a b = (x y : Made) → IsIn x a → IsIn y b → share_point x.0.1 y.0.1 ≡ false
