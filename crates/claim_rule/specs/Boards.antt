-- A table of buckets as plain data: the ticket, a word for each bucket, the buckets at home, and the live passes.
use Rattle.std.specs.Prelude.{◌≡◌, ℕ, ◌+◌, ◌<◌, ◌≤◌, Bool, ◌&&◌, List, [], ◌∷◌, Option, None, Some, slice_index_or}
use Rattle.std.specs.Prelude.{drop, leb, ltb}
use Rattle.std.specs.List.{filter}
use Rattle.edit_history.specs.declared.history.Entry.{Entry}
use Rattle.cell_store.specs.Buckets.{BucketContent, InHand, no_room}

-- A live pass: its first part, which is its number, how many parts it owns, how many edits it may still make, what it
-- has seen of the ticket, what the ticket was when it was made, and for each bucket the content, if the pass holds it.
pub record View : Type 0 where
  pub first : ℕ
  pub parts : ℕ
  pub left : ℕ
  pub seen : ℕ
  pub since : ℕ
  pub held : List (Option BucketContent)

-- A board: the size of its grid, its number of parts, how many entries there may be at most, the entries with which it
-- began; the ticket; for each bucket its word and the content, if it is at home; and for each part the
-- live pass with this number, if there is one.
pub record BoardState : Type 0 where
  pub grid : ℕ
  pub parts : ℕ
  pub most : ℕ
  pub opening : List Entry
  pub ticket : ℕ
  pub words : List ℕ
  pub homes : List (Option BucketContent)
  pub views : List (Option View)

-- the word of a bucket
abbrev pub word_of : BoardState → ℕ → ℕ
word_of s b = slice_index_or s.words b 0

-- the live pass with a number, if there is one
abbrev pub view_at : BoardState → ℕ → Option View
view_at s n = slice_index_or s.views n None

-- the pass is a live one of the board
abbrev pub IsLive : BoardState → View → Type 0
IsLive s v = view_at s v.first ≡ Some v

-- the pass owns the part
abbrev pub Owns : View → ℕ → Type 0
Owns v p = (v.first ≤ p) × (p < v.first + v.parts)

-- what a pass holds, as a hold
abbrev pub in_hand_of : ℕ → List (Option BucketContent) → InHand
in_hand_of g places = record { grid = g; places = places; room = no_room }

-- how many edits all live passes may still make
abbrev pub left_in : List (Option View) → ℕ
left_in [] = 0
left_in (None ∷ views) = left_in views
left_in (Some v ∷ views) = v.left + left_in views

-- the entry is by one of these parts
abbrev pub is_by : ℕ → ℕ → Entry → Bool
is_by first parts e = leb first e.by && ltb e.by (first + parts)

-- what these parts have made: their entries but for the first c of the history
abbrev pub made_by : ℕ → ℕ → ℕ → List Entry → List Entry
made_by first parts c h = filter (is_by first parts) (drop c h)
