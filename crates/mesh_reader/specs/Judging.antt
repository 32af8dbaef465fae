-- Judging a text line by line, as the reader does. That this decides the grammar and finds its fault is proved.
use Rattle.std.specs.Prelude.{ℕ, zero, suc, Bool, true, false, List, [], ◌∷◌, ◌++◌, ◌&&◌, length, codes, slice_index_or}
use Rattle.std.specs.Prelude.{nat_lt, nat_le, ◌==◌, if◌then◌else◌, Option, Some, None, Result, Ok, Err}
use Rattle.std.specs.Str.{bytes_eq}
use Rattle.std.specs.Cmp.Lexicographic.{slice_cmp}
use Rattle.std.specs.Ordering.{nat_cmp, is_lt}
use Rattle.edit_history.specs.declared.history.Reply.{Reply}
use Rattle.edit_history.specs.declared.history.Reply.TheVariants.{Inserted, Duplicate, Removed, Missing, Flat, Moved}
use Rattle.edit_history.specs.declared.history.Reply.TheVariants.{Occupied}
use Rattle.text_readings.specs.declared.fault.Why.{Why}
use Rattle.text_readings.specs.declared.fault.Why.TheVariants.{Section, Field, Range, TooMany}
use Rattle.text_readings.specs.Judging.{Judge, then_at, with_one}
use Rattle.text_readings.specs.Scanning.{fields_of, number, point}
use Rattle.mesh_reader.specs.declared.place.Part.{Part}
use Rattle.mesh_reader.specs.declared.place.Part.TheVariants.{Replies, Points, Cells, Hull}
use Rattle.mesh_reader.specs.declared.place.Due.{Due}
use Rattle.mesh_reader.specs.declared.place.Due.TheVariants.{Title, Head, Body, Last, Nothing}
use Rattle.mesh_reader.specs.declared.mesh_file.PackedMesh.{PackedMesh}
use Rattle.mesh_reader.specs.declared.reader.Reader.{Reader}
use Rattle.mesh_reader.specs.Grammar.{MeshParts, Reached, at_end, head_word, lines_due, most_of, point_limit}
use Rattle.mesh_reader.specs.Grammar.{reply_word}
use Rattle.mesh_reader.specs.Packed.{parts}

-- ---- lines

-- what follows the word
abbrev pub stripped : List ℕ → List ℕ → Option (List ℕ)
stripped [] line = Some line
stripped (w ∷ word) [] = None
stripped (w ∷ word) (b ∷ line) = if b == w then stripped word line else None

-- the number of what follows
abbrev pub head_count : Option (List ℕ) → Option ℕ
head_count None = None
head_count (Some digits) = number digits

-- how many lines a head announces, where it is one
unfoldable pub announced : Part → List ℕ → Option ℕ
announced p line = head_count (stripped (head_word p) line)

-- a number in front of others, where all are there
abbrev pub in_front : Option ℕ → Option (List ℕ) → Option (List ℕ)
in_front None rest = None
in_front (Some n) None = None
in_front (Some n) (Some rest) = Some (n ∷ rest)

-- the numbers of so many fields
unfoldable pub field_numbers : ℕ → List (List ℕ) → Option (List ℕ)
field_numbers zero [] = Some []
field_numbers zero (x ∷ fields) = None
field_numbers (suc n) [] = None
field_numbers (suc n) (x ∷ fields) = in_front (number x) (field_numbers n fields)

-- the point at an index
abbrev pub indexed_point : List ℕ → ℕ → Option ℕ
indexed_point s i = if nat_lt i (length s) && nat_lt i point_limit then Some (slice_index_or s i 0) else None

-- the points at indices
unfoldable pub indexed_points : List ℕ → List ℕ → Option (List ℕ)
indexed_points s [] = Some []
indexed_points s (i ∷ indices) = in_front (indexed_point s i) (indexed_points s indices)

-- each is below the next
abbrev pub ascends : List ℕ → Bool
ascends [] = true
ascends (x ∷ []) = true
ascends (x ∷ y ∷ l) = nat_lt x y && ascends (y ∷ l)

abbrev pub in_order : Option (List ℕ) → Result (List ℕ) Why
in_order None = Err Range
in_order (Some q) = if ascends q then Ok q else Err Range

abbrev pub corners_from : List ℕ → Option (List ℕ) → Result (List ℕ) Why
corners_from s None = Err Field
corners_from s (Some indices) = in_order (indexed_points s indices)

-- the points of a line of n indices
unfoldable pub indexed_corners : ℕ → List ℕ → List ℕ → Result (List ℕ) Why
indexed_corners n s line = corners_from s (field_numbers n (fields_of line))

-- the first of the replies whose word the line is
abbrev pub reply_among : List Reply → List ℕ → Result Reply Why
reply_among [] line = Err Field
reply_among (r ∷ rs) line = if bytes_eq line (reply_word r) then Ok r else reply_among rs line

-- the reply of a line
unfoldable pub reply_of : List ℕ → Result Reply Why
reply_of line =
    reply_among (Inserted ∷ Duplicate ∷ Removed ∷ Missing ∷ Flat ∷ Moved ∷ Occupied ∷ []) line

-- the last of the list, if there is one, is before the element
abbrev pub is_after_last : {X : Type 0} → (X → X → Bool) → List X → X → Bool
is_after_last before [] q = true
is_after_last before (r ∷ []) q = before r q
is_after_last before (r ∷ o ∷ l) q = is_after_last before (o ∷ l) q

abbrev pub is_less : List ℕ → List ℕ → Bool
is_less r q = is_lt (slice_cmp nat_cmp r q)

-- ---- what is taken

-- what a line of a list adds
abbrev pub taken : Part → MeshParts → List ℕ → Result MeshParts Why
taken Replies f line =
    with_one (λ r. true) (λ r. record f { replies = f.replies ++ r ∷ [] }) (reply_of line)
taken Points f line =
    with_one (is_after_last nat_lt f.points) (λ p. record f { points = f.points ++ p ∷ [] }) (point line)
taken Cells f line =
    with_one (is_after_last is_less f.cells) (λ q. record f { cells = f.cells ++ q ∷ [] })
    (indexed_corners 4 f.points line)
taken Hull f line =
    with_one (is_after_last is_less f.hull) (λ q. record f { hull = f.hull ++ q ∷ [] })
    (indexed_corners 3 f.points line)

-- ---- one line

abbrev pub now_due : Due → MeshParts → Result Reached Why
now_due due f = Ok (record { due = due; taken = f })

abbrev pub then_due : Due → Result MeshParts Why → Result Reached Why
then_due due r = then_at (λ g. record { due = due; taken = g }) r

abbrev pub headed : Part → MeshParts → Option ℕ → Result Reached Why
headed p f None = Err Section
headed p f (Some n) = if nat_le n (most_of p) then now_due (lines_due p n) f else Err TooMany

abbrev pub transition_at : Due → MeshParts → List ℕ → Result Reached Why
transition_at Title f line = if bytes_eq line (codes "mesh3-out 1") then now_due (Head Replies) f else Err Section
transition_at (Head p) f line = headed p f (announced p line)
transition_at (Body p n) f line = then_due (lines_due p n) (taken p f line)
transition_at Last f line = if bytes_eq line (codes "end") then now_due Nothing f else Err Section
transition_at Nothing f line = Err Section

unfoldable pub transition : Reached → List ℕ → Result Reached Why
transition a line = transition_at a.due a.taken line

-- ---- all lines

-- nothing more is due
abbrev pub none_due : Due → Bool
none_due Nothing = true
none_due Title = false
none_due (Head p) = false
none_due (Body p n) = false
none_due Last = false

-- how a text is judged, line by line
abbrev pub mesh_judge : Judge Reached
mesh_judge = record { step = transition; may_end = λ a. none_due a.due }

-- ---- what the functions see

abbrev pub reached : Reader → Reached
reached r = record { due = r.due; taken = parts r.file }

-- a mesh that was read to its end
abbrev pub whole : PackedMesh → Reached
whole f = at_end (parts f)
