-- The text of a mesh: which lines are due, one after another, and what mesh a text is of. It is the text of a report
-- without shapes and without an order block.
use Rattle.std.specs.Prelude.{◌≡◌, ℕ, zero, suc, ◌<◌, ◌≤◌, List, [], ◌∷◌, ◌++◌, ⊤, length, codes, slice_index_or}
use Rattle.std.specs.List.{join_with_byte}
use Rattle.std.specs.Cmp.Lexicographic.{slice_cmp}
use Rattle.std.specs.Ordering.{nat_cmp}
use Rattle.std.specs.declared.cmp.Ordering.TheVariants.{Less}
use Rattle.list_laws.specs.Lists.{IsIn, IsAscending}
use Rattle.edit_history.specs.declared.history.Reply.{Reply}
use Rattle.edit_history.specs.declared.history.Reply.TheVariants.{Inserted, Duplicate, Removed, Missing, Flat, Moved}
use Rattle.edit_history.specs.declared.history.Reply.TheVariants.{Occupied}
use Rattle.text_readings.specs.Readings.{lines_of, AllLead}
use Rattle.text_readings.specs.PointLines.{IsNumber, IsNumberOf, HasPointForm, IsPointLine}
use Rattle.mesh_reader.specs.declared.place.Part.{Part}
use Rattle.mesh_reader.specs.declared.place.Part.TheVariants.{Replies, Points, Cells, Hull}
use Rattle.mesh_reader.specs.declared.place.Due.{Due}
use Rattle.mesh_reader.specs.declared.place.Due.TheVariants.{Title, Head, Body, Last, Nothing}

-- ---- what a text says

-- the replies, the points, and the cells and triples by their points, each in the order of their lines
pub record MeshParts : Type 0 where
  pub replies : List Reply
  pub points : List ℕ
  pub cells : List (List ℕ)
  pub hull : List (List ℕ)

-- nothing yet
abbrev pub no_parts : MeshParts
no_parts = record { replies = []; points = []; cells = []; hull = [] }

-- ---- the lines

-- the word of a list's head, with the space behind it
abbrev pub head_word : Part → List ℕ
head_word Replies = codes "replies "
head_word Points = codes "points "
head_word Cells = codes "cells "
head_word Hull = codes "hull "

-- the most replies and points that there may be
abbrev pub point_limit : ℕ
point_limit = 262144

-- the most cells, and the most triples
abbrev pub cell_limit : ℕ
cell_limit = 16777216

-- the most lines of a list
abbrev pub most_of : Part → ℕ
most_of Replies = point_limit
most_of Points = point_limit
most_of Cells = cell_limit
most_of Hull = cell_limit

-- a head: its word, one space, and a number
pub record HasHeadForm (p : Part) (line : List ℕ) : Type 0 where
  pub digits : List ℕ
  pub fields : line ≡ head_word p ++ digits
  pub number : IsNumber digits

-- a head that announces n lines, no more than there may be
pub record IsHead (p : Part) (n : ℕ) (line : List ℕ) : Type 0 where
  pub digits : List ℕ
  pub fields : line ≡ head_word p ++ digits
  pub value : IsNumberOf digits n
  pub most : n ≤ most_of p

-- the word of a reply
abbrev pub reply_word : Reply → List ℕ
reply_word Inserted = codes "Inserted"
reply_word Duplicate = codes "Duplicate"
reply_word Removed = codes "Removed"
reply_word Missing = codes "Missing"
reply_word Flat = codes "Flat"
reply_word Moved = codes "Moved"
reply_word Occupied = codes "Occupied"

-- so many numbers, with one space (32) between two
pub record HasNumbers (n : ℕ) (line : List ℕ) : Type 0 where
  pub fields : List (List ℕ)
  pub count : length fields ≡ n
  pub each : (x : List ℕ) → IsIn x fields → IsNumber x
  pub is : line ≡ join_with_byte 32 fields

-- the number is the index of the point in the list, from 0; no list of points is longer than there may be points
abbrev pub IsIndexOf : List ℕ → List ℕ → ℕ → Type 0
IsIndexOf s x p = (i : ℕ) × IsNumberOf x i × (i < length s) × (i < point_limit) × (slice_index_or s i 0 ≡ p)

-- the numbers are the indices of these points in the list
abbrev pub AreIndices : List ℕ → List (List ℕ) → List ℕ → Type 0
AreIndices s [] [] = ⊤
AreIndices s (x ∷ fields) (p ∷ q) = IsIndexOf s x p × AreIndices s fields q
AreIndices s _ _ = ⊥

-- The line of n points of the list, as indices. The points ascend, and so their indices do.
pub record IsIndexLine (n : ℕ) (s line q : List ℕ) : Type 0 where
  pub fields : List (List ℕ)
  pub is : line ≡ join_with_byte 32 fields
  pub count : length fields ≡ n
  pub indices : AreIndices s fields q
  pub ascending : IsAscending q

-- the last of the list, if there is one, is before the element
abbrev pub IsAfter : {X : Type 0} → (X → X → Type 0) → List X → X → Type 0
IsAfter Before [] q = ⊤
IsAfter Before (r ∷ []) q = Before r q
IsAfter Before (r ∷ o ∷ l) q = IsAfter Before (o ∷ l) q

-- one list of points is before another in lexicographic order
abbrev pub IsLess : List ℕ → List ℕ → Type 0
IsLess r q = slice_cmp nat_cmp r q ≡ Less

-- a line of the form of its list's
abbrev pub HasFormOf : Part → List ℕ → Type 0
HasFormOf Replies line = (r : Reply) × (line ≡ reply_word r)
HasFormOf Points line = HasPointForm line
HasFormOf Cells line = HasNumbers 4 line
HasFormOf Hull line = HasNumbers 3 line

-- a line of a list, in range, and after the lines before it; and what is taken then
abbrev pub IsTaken : Part → MeshParts → List ℕ → MeshParts → Type 0
IsTaken Replies f line g =
    (r : Reply) × (line ≡ reply_word r) × (g ≡ record f { replies = f.replies ++ r ∷ [] })
IsTaken Points f line g =
    (p : ℕ) × IsPointLine line p × IsAfter (λ r q. r < q) f.points p
    × (g ≡ record f { points = f.points ++ p ∷ [] })
IsTaken Cells f line g =
    (q : List ℕ) × IsIndexLine 4 f.points line q × IsAfter IsLess f.cells q
    × (g ≡ record f { cells = f.cells ++ q ∷ [] })
IsTaken Hull f line g =
    (q : List ℕ) × IsIndexLine 3 f.points line q × IsAfter IsLess f.hull q
    × (g ≡ record f { hull = f.hull ++ q ∷ [] })

-- ---- what is due

-- behind a list
abbrev pub behind : Part → Due
behind Replies = Head Points
behind Points = Head Cells
behind Cells = Head Hull
behind Hull = Last

-- where so many lines of a list are due
abbrev pub lines_due : Part → ℕ → Due
lines_due p zero = behind p
lines_due p (suc n) = Body p n

-- where a reading is: what is due, and what was taken
pub record Reached : Type 0 where
  pub due : Due
  pub taken : MeshParts

-- the line is right where this is due, and leads on
abbrev pub Leads : Due → MeshParts → List ℕ → Reached → Type 0
Leads Title f line next = (line ≡ codes "mesh3-out 1") × (next ≡ record { due = Head Replies; taken = f })
Leads (Head p) f line next = (n : ℕ) × IsHead p n line × (next ≡ record { due = lines_due p n; taken = f })
Leads (Body p n) f line next =
    (g : MeshParts) × IsTaken p f line g × (next ≡ record { due = lines_due p n; taken = g })
Leads Last f line next = (line ≡ codes "end") × (next ≡ record { due = Nothing; taken = f })
Leads Nothing f line next = ⊥

-- the same where a reading is
abbrev pub LeadsOn : Reached → List ℕ → Reached → Type 0
LeadsOn a line b = Leads a.due a.taken line b

-- where a reading begins, and where it ends
abbrev pub at_title : Reached
at_title = record { due = Title; taken = no_parts }

abbrev pub at_end : MeshParts → Reached
at_end f = record { due = Nothing; taken = f }

-- the text is that of the mesh
abbrev pub IsMeshText : List ℕ → MeshParts → Type 0
IsMeshText bytes f = AllLead LeadsOn (lines_of bytes) at_title (at_end f)
