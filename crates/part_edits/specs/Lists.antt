-- A list of lines that is worked off in a part: each is made, with a reply, or set aside.
use Rattle.std.specs.Prelude.{◌≡◌, ℕ, ◌<◌, true, false, List, [], ◌∷◌, ◌++◌, length, Option, None, Some, slice_index_or}
use Rattle.point_order.specs.declared.cell.Cell.{Cell}
use Rattle.edit_history.specs.declared.history.Reply.{Reply}
use Rattle.edit_history.specs.Edits.{share_point}
use Rattle.cell_slots.specs.Clouds.{AreCellsOf}
use Rattle.cell_slots.specs.Nets.{AreMoved}
use Rattle.part_edits.specs.Changes.{IsMade}
use Rattle.part_edits.specs.Made.{AgreeOnLines, Line, Made, known_by}

-- the lines that have a reply, with it
abbrev pub made_in : List Line → List (Option Reply) → List Made
made_in [] answers = []
made_in (line ∷ lines) [] = []
made_in (line ∷ lines) (None ∷ answers) = made_in lines answers
made_in (line ∷ lines) (Some r ∷ answers) = (line, r) ∷ made_in lines answers

-- those that have none
abbrev pub left_in : List Line → List (Option Reply) → List Line
left_in [] answers = []
left_in (line ∷ lines) [] = line ∷ lines
left_in (line ∷ lines) (None ∷ answers) = line ∷ left_in lines answers
left_in (line ∷ lines) (Some r ∷ answers) = left_in lines answers

-- the reply to a line, if it has one
abbrev pub answer_at : List (Option Reply) → ℕ → Option Reply
answer_at answers i = slice_index_or answers i None

-- a line that shares a point with an earlier one that was set aside is set aside
abbrev pub KeepOrder : List Line → List (Option Reply) → Type 0
KeepOrder lines answers =
    (i j : ℕ) (d : Line) → i < j → j < length lines → answer_at answers i ≡ None →
    share_point (slice_index_or lines i d).1 (slice_index_or lines j d).1 ≡ true → answer_at answers j ≡ None

-- the cells and some others are those of some set, of which it is known which points of the lines it has
pub record HavePartKnown (known : List ℕ) (lines : List Line) (cells : List Cell) : Type 0 where
  pub others : List Cell
  pub set : List ℕ
  pub cells_of : AreCellsOf set (cells ++ others)
  pub agree : AgreeOnLines known set lines

-- Line i has a reply, and was made with it, and shares no point with an earlier one that has none; or it has none, and
-- nothing changed.
abbrev pub IsAnswered : List Line → List (Option Reply) → ℕ → Option Reply → List ℕ → List ℕ → List Cell → List Cell →
    Type 0
IsAnswered lines answers i None keys keys' old new = AreMoved old new × (keys' ≡ keys)
IsAnswered lines answers i (Some r) keys keys' old new =
    (d : Line) → IsMade keys (slice_index_or lines i d).1 r old new
    × (keys' ≡ known_by keys (slice_index_or lines i d).1 r)
    × ((k : ℕ) → k < i → answer_at answers k ≡ None →
    share_point (slice_index_or lines k d).1 (slice_index_or lines i d).1 ≡ false)
