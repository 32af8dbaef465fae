-- The grammar of an edit file: which lines are due, one after another, and which file a text is.
use Rattle.std.specs.Prelude.{◌≡◌, ◌⊎◌, ℕ, List, [], ◌∷◌, ◌++◌, ◌+◌, ◌<◌, ◌≤◌, length, codes, if◌then◌else◌, IsTrue}
use Rattle.edit_history.specs.declared.history.Edit.{Edit}
use Rattle.edit_history.specs.declared.history.Edit.TheVariants.{Add, Take, Move}
use Rattle.text_readings.specs.Readings.{lines_of, AllLead}
use Rattle.text_readings.specs.PointLines.{IsNumber, IsNumberOf, HasPointForm, IsPointLine}
use Rattle.edit_files.specs.declared.place.Part.{Part}
use Rattle.edit_files.specs.declared.place.Part.TheVariants.{Points, Edits, Radii, Queries}
use Rattle.edit_files.specs.declared.place.Due.{Due}
use Rattle.edit_files.specs.declared.place.Due.TheVariants.{Title, Heading, Body, Nothing}
use Rattle.edit_files.specs.declared.version.Version.{Version}
use Rattle.edit_files.specs.declared.version.Version.TheVariants.{One}
use Rattle.edit_files.specs.Content.{Content, row}

-- ---- how many lines there may be

-- how many point and edit lines a file may have together, how many radius lines, and how many queries
abbrev pub line_limit : ℕ
line_limit = 262144

abbrev pub radius_limit : ℕ
radius_limit = 16

abbrev pub query_limit : ℕ
query_limit = 65536

-- how many point and edit lines are taken, and what version at most
pub record Limits : Type 0 where
  pub lines : ℕ
  pub newest : Version

-- a version's files and those of the versions before it
abbrev pub up_to : Version → Limits
up_to newest = record { lines = line_limit; newest = newest }

-- the version is none after the newest
abbrev pub IsWithinNewest : Limits → Version → Type 0
IsWithinNewest limits version = (row version).number ≤ (row limits.newest).number

-- how many lines are taken of a list, points and edits counted together, and how many may be
abbrev pub lines_in : Part → Content → ℕ
lines_in Points f = length f.points + length f.edits
lines_in Edits f = length f.points + length f.edits
lines_in Radii f = length f.radii
lines_in Queries f = length f.queries

abbrev pub most_of : Limits → Part → ℕ
most_of limits Points = limits.lines
most_of limits Edits = limits.lines
most_of limits Radii = radius_limit
most_of limits Queries = query_limit

-- ---- the lines

-- a line of the form of two point lines, with one space between them
pub record HasPairForm (line : List ℕ) : Type 0 where
  pub from : List ℕ
  pub to : List ℕ
  pub fields : line ≡ from ++ 32 ∷ to
  pub from_form : HasPointForm from
  pub to_form : HasPointForm to

-- the point lines of two points, with one space between them
pub record IsPairLine (line : List ℕ) (a b : ℕ) : Type 0 where
  pub from : List ℕ
  pub to : List ℕ
  pub fields : line ≡ from ++ 32 ∷ to
  pub from_point : IsPointLine from a
  pub to_point : IsPointLine to b

-- A line of the form of an edit line: a plus (43) or a minus (45), one space, and the form of a point line. In a
-- version with moves also an equals sign (61), one space, and the form of two point lines.
abbrev pub HasEditForm : Version → List ℕ → Type 0
HasEditForm version line =
    (rest : List ℕ)
    × ((((line ≡ 43 ∷ 32 ∷ rest) ⊎ (line ≡ 45 ∷ 32 ∷ rest)) × HasPointForm rest)
    ⊎ ((line ≡ 61 ∷ 32 ∷ rest) × IsTrue (row version).moves × HasPairForm rest))

-- a plus adds the point, a minus takes it, and an equals sign moves the first point to the second
abbrev pub IsEditLine : Version → List ℕ → Edit → Type 0
IsEditLine version line (Add point) = (rest : List ℕ) × (line ≡ 43 ∷ 32 ∷ rest) × IsPointLine rest point
IsEditLine version line (Take point) = (rest : List ℕ) × (line ≡ 45 ∷ 32 ∷ rest) × IsPointLine rest point
IsEditLine version line (Move a b) =
    (rest : List ℕ) × (line ≡ 61 ∷ 32 ∷ rest) × IsTrue (row version).moves × IsPairLine rest a b

-- the radius line of a radius, which is in the range of the version; its form is that of one number
abbrev pub IsRadiusLine : Version → List ℕ → ℕ → Type 0
IsRadiusLine version line radius = IsNumberOf line radius × (radius < (row version).radius_end)

-- a line of the form of its list's
abbrev pub HasFormOf : Version → Part → List ℕ → Type 0
HasFormOf version Points line = HasPointForm line
HasFormOf version Edits line = HasEditForm version line
HasFormOf version Radii line = IsNumber line
HasFormOf version Queries line = HasPointForm line

-- a line of a list, in range; and what is taken then
abbrev pub IsTaken : Part → Content → List ℕ → Content → Type 0
IsTaken Points f line g =
    (p : ℕ) × IsPointLine line p × (g ≡ record f { points = f.points ++ p ∷ [] })
IsTaken Edits f line g =
    (e : Edit) × IsEditLine f.version line e × (g ≡ record f { edits = f.edits ++ e ∷ [] })
IsTaken Radii f line g =
    (r : ℕ) × IsRadiusLine f.version line r × (g ≡ record f { radii = f.radii ++ r ∷ [] })
IsTaken Queries f line g =
    (q : ℕ) × IsPointLine line q × (g ≡ record f { queries = f.queries ++ q ∷ [] })

-- the word behind a list, and what is due then
abbrev pub word_behind : Version → Part → List ℕ
word_behind version Points = codes "edits"
word_behind version Edits = codes "radii"
word_behind version Radii = if (row version).queries then codes "queries" else codes "end"
word_behind version Queries = codes "end"

abbrev pub due_behind : Version → Part → Due
due_behind version Points = Body Edits
due_behind version Edits = Body Radii
due_behind version Radii = if (row version).queries then Body Queries else Nothing
due_behind version Queries = Nothing

-- ---- what is due

-- where a reading is: what is due, and what was taken
pub record Reached : Type 0 where
  pub due : Due
  pub taken : Content

-- the line is right where this is due, and leads on
abbrev pub Leads : Limits → Due → Content → List ℕ → Reached → Type 0
Leads limits Title f line next =
    (version : Version) × (line ≡ (row version).title) × IsWithinNewest limits version
    × (next ≡ record { due = Heading; taken = record f { version = version } })
Leads limits Heading f line next = (line ≡ codes "points") × (next ≡ record { due = Body Points; taken = f })
Leads limits (Body p) f line next =
    ((line ≡ word_behind f.version p) × (next ≡ record { due = due_behind f.version p; taken = f }))
    ⊎ ((g : Content) × (lines_in p f < most_of limits p) × IsTaken p f line g
    × (next ≡ record { due = Body p; taken = g }))
Leads limits Nothing f line next = ⊥

-- the same where a reading is
abbrev pub LeadsOn : Limits → Reached → List ℕ → Reached → Type 0
LeadsOn limits a line b = Leads limits a.due a.taken line b

-- nothing yet
abbrev pub no_content : Content
no_content = record { version = One; points = []; edits = []; radii = []; queries = [] }

-- where a reading begins, and where it ends
abbrev pub at_title : Reached
at_title = record { due = Title; taken = no_content }

abbrev pub at_end : Content → Reached
at_end f = record { due = Nothing; taken = f }

-- the text is that of the file
abbrev pub IsFile : Limits → List ℕ → Content → Type 0
IsFile limits bytes file = AllLead (LeadsOn limits) (lines_of bytes) at_title (at_end file)
