-- Judging a text line by line, as the reader does. That this decides the grammar and finds its fault is proved.
use Rattle.std.specs.Prelude.{ℕ, Bool, true, false, List, [], ◌∷◌, ◌++◌, ◌&&◌, codes, nat_lt, nat_le, ◌==◌}
use Rattle.std.specs.Prelude.{if◌then◌else◌, Option, Some, None, Result, Ok, Err}
use Rattle.std.specs.List.{join_with_byte}
use Rattle.std.specs.Str.{bytes_eq}
use Rattle.edit_history.specs.declared.history.Edit.{Edit}
use Rattle.edit_history.specs.declared.history.Edit.TheVariants.{Add, Take, Move}
use Rattle.text_readings.specs.declared.fault.Why.{Why}
use Rattle.text_readings.specs.declared.fault.Why.TheVariants.{Section, Field, Range, TooMany}
use Rattle.text_readings.specs.Judging.{Judge, then_at, with_one}
use Rattle.text_readings.specs.PointLines.{three_spaced}
use Rattle.text_readings.specs.Scanning.{fields_of, number, point}
use Rattle.edit_files.specs.declared.file.File.{File}
use Rattle.edit_files.specs.declared.place.Part.{Part}
use Rattle.edit_files.specs.declared.place.Part.TheVariants.{Points, Edits, Radii, Queries}
use Rattle.edit_files.specs.declared.place.Due.{Due}
use Rattle.edit_files.specs.declared.place.Due.TheVariants.{Title, Heading, Body, Nothing}
use Rattle.edit_files.specs.declared.reader.Reader.{Reader}
use Rattle.edit_files.specs.declared.version.Version.{Version}
use Rattle.edit_files.specs.declared.version.Version.TheVariants.{One, Two, Three, Four}
use Rattle.edit_files.specs.Content.{Content, row}
use Rattle.edit_files.specs.Held.{content}
use Rattle.edit_files.specs.Faults.{is_word}
use Rattle.edit_files.specs.Grammar.{Limits, Reached, at_end, due_behind, lines_in, most_of, word_behind}

-- ---- lines

-- the version whose first line this is
abbrev pub titled : List ℕ → Option Version
titled line =
    if bytes_eq line (row One).title then Some One
    else (if bytes_eq line (row Two).title then Some Two
    else (if bytes_eq line (row Three).title then Some Three
    else (if bytes_eq line (row Four).title then Some Four else None)))

abbrev pub edit_from : (ℕ → Edit) → Result ℕ Why → Result Edit Why
edit_from kind (Ok p) = Ok (kind p)
edit_from kind (Err why) = Err why

-- the first three fields of a line, and the others
abbrev pub halves_of : List (List ℕ) → Option (List ℕ × List ℕ)
halves_of [] = None
halves_of (x ∷ []) = None
halves_of (x ∷ y ∷ []) = None
halves_of (x ∷ y ∷ z ∷ []) = None
halves_of (x ∷ y ∷ z ∷ u ∷ rest) = Some (three_spaced x y z, join_with_byte 32 (u ∷ rest))

unfoldable pub halves : List ℕ → Option (List ℕ × List ℕ)
halves line = halves_of (fields_of line)

-- of two places that are not read: one that is not of its form comes before one that is out of range
abbrev pub worse : Why → Result ℕ Why → Why
worse why (Ok point) = why
worse why (Err Field) = Field
worse why (Err other) = why

-- a move of two points as they were read
abbrev pub move_from : Result ℕ Why → Result ℕ Why → Result Edit Why
move_from (Ok a) to = edit_from (Move a) to
move_from (Err why) to = Err (worse why to)

abbrev pub move_of : Option (List ℕ × List ℕ) → Result Edit Why
move_of None = Err Field
move_of (Some places) = move_from (point places.0) (point places.1)

-- what a sign does with what follows it, in a file of a version
abbrev pub edit_at : Version → ℕ → List ℕ → Result Edit Why
edit_at version sign rest =
    if sign == 43 then edit_from Add (point rest)
    else (if sign == 45 then edit_from Take (point rest)
    else (if sign == 61 && (row version).moves then move_of (halves rest) else Err Field))

unfoldable pub edit : Version → List ℕ → Result Edit Why
edit version [] = Err Field
edit version (sign ∷ []) = Err Field
edit version (sign ∷ space ∷ rest) = if space == 32 then edit_at version sign rest else Err Field

abbrev pub radius_from : Version → Option ℕ → Result ℕ Why
radius_from version None = Err Field
radius_from version (Some n) = if nat_lt n (row version).radius_end then Ok n else Err Range

unfoldable pub radius : Version → List ℕ → Result ℕ Why
radius version line = radius_from version (number line)

-- ---- what is taken

-- what a line of a list adds
abbrev pub taken : Part → Content → List ℕ → Result Content Why
taken Points f line = with_one (λ p. true) (λ p. record f { points = f.points ++ p ∷ [] }) (point line)
taken Edits f line = with_one (λ e. true) (λ e. record f { edits = f.edits ++ e ∷ [] }) (edit f.version line)
taken Radii f line = with_one (λ r. true) (λ r. record f { radii = f.radii ++ r ∷ [] }) (radius f.version line)
taken Queries f line = with_one (λ q. true) (λ q. record f { queries = f.queries ++ q ∷ [] }) (point line)

-- as many lines of a list are taken as there may be
abbrev pub is_list_full : Limits → Part → Content → Bool
is_list_full limits p f = nat_le (most_of limits p) (lines_in p f)

-- ---- one line

abbrev pub now_due : Due → Content → Result Reached Why
now_due due f = Ok (record { due = due; taken = f })

-- the first line, which tells the version; it is to be none after the newest
abbrev pub with_title : Version → Content → Option Version → Result Reached Why
with_title newest f None = Err Section
with_title newest f (Some version) =
    if nat_le (row version).number (row newest).number
    then now_due Heading (record f { version = version })
    else Err Section

-- a line of a list: it may be no word, and the list may not be full
abbrev pub list_line : Version → List ℕ → Bool → Result Reached Why → Result Reached Why
list_line version line full taken = if is_word version line then Err Section else (if full then Err TooMany else taken)

abbrev pub step_at : Limits → Due → Content → List ℕ → Result Reached Why
step_at limits Title f line = with_title limits.newest f (titled line)
step_at limits Heading f line = if bytes_eq line (codes "points") then now_due (Body Points) f else Err Section
step_at limits (Body p) f line =
    if bytes_eq line (word_behind f.version p) then now_due (due_behind f.version p) f
    else list_line f.version line (is_list_full limits p f)
    (then_at (λ g. record { due = Body p; taken = g }) (taken p f line))
step_at limits Nothing f line = Err Section

unfoldable pub after_line : Limits → Reached → List ℕ → Result Reached Why
after_line limits a line = step_at limits a.due a.taken line

-- ---- all lines

-- nothing more is due
abbrev pub none_due : Due → Bool
none_due Nothing = true
none_due Title = false
none_due Heading = false
none_due (Body p) = false

-- how a text is judged, line by line
abbrev pub file_judge : Limits → Judge Reached
file_judge limits = record { step = after_line limits; may_end = λ a. none_due a.due }

-- ---- what the functions see

abbrev pub reached : Reader → Reached
reached r = record { due = r.due; taken = content r.file }

-- a file that was read to its end
abbrev pub whole : File → Reached
whole f = at_end (content f)
