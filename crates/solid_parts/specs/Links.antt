-- Links between cells around triples, taken in the order of the alphas at which both cells are admitted.
use Rattle.std.specs.Prelude.{◌≡◌, ◌<◌, ◌≤◌, ◌+◌, ◌==◌, ℕ, max, All, List, [], length, nat_le, slice_index_or}
use Rattle.std.specs.List.{count_by, filter, range_with_len}
use Rattle.std.specs.List.Sorted.{IsNonDecreasingBy}
use Rattle.list_laws.specs.Lists.{IsIn}
use Rattle.point_order.specs.declared.cell.Cell.{Cell}
use Rattle.face_list.specs.Seen.{FaceLists}
use Rattle.face_list.specs.Tables.{cells_numbered}
use Rattle.solid_parts.specs.declared.links.Link.{Link}
use Rattle.solid_parts.specs.declared.climb.Climb.{Climb}
use Rattle.solid_parts.specs.Groups.{AreTogether, LeadTo, label_at}

-- two cells by their numbers, and the least alpha at which both are admitted
abbrev pub link_between : List ℕ → ℕ → ℕ → Link
link_between leasts u v = record { alpha = max (label_at leasts u) (label_at leasts v); one = u; other = v }

-- the link of an index
abbrev pub link_at : List Link → ℕ → Link
link_at links t = slice_index_or links t (record { alpha = 0; one = 0; other = 0 })

-- the link of each number of one list with each greater one of another is among some links
abbrev pub HasLinks : List ℕ → List ℕ → List ℕ → List Link → Type 0
HasLinks leasts ones others links =
    (u v : ℕ) → IsIn u ones → IsIn v others → u < v → IsIn (link_between leasts u v) links

-- the links that were there are there
abbrev pub KeepsLinks : List Link → List Link → Type 0
KeepsLinks old new = (l : Link) → IsIn l old → IsIn l new

-- both cells of each link are below a count
abbrev pub AreLinksBelow : ℕ → List Link → Type 0
AreLinksBelow count links = All (λ l. (l.one < count) × (l.other < count)) links

-- The numbers are those of the cells around a triple, and the links between them are there.
pub record IsLinked (faces : FaceLists) (leasts : List ℕ) (links : List Link)
    (triple : List ℕ × List Cell) : Type 0 where
  pub numbers : List ℕ
  pub around : cells_numbered faces.cells numbers ≡ triple.1
  pub below : All (λ n. n < length faces.cells) numbers
  pub has : HasLinks leasts numbers numbers links

-- so it is for each of the first k triples
abbrev pub AreLinked : FaceLists → List ℕ → ℕ → List Link → Type 0
AreLinked faces leasts k links = (t : ℕ) → t < k → IsLinked faces leasts links (slice_index_or faces.triples t ([], []))

-- the alphas of the links do not fall
abbrev pub Rise : List Link → Type 0
Rise links = IsNonDecreasingBy (λ l. l.alpha) links

-- how many numbers are their own labels
abbrev pub own_count : List ℕ → ℕ
own_count labels = length (filter (λ i. label_at labels i == i) (range_with_len 0 (length labels)))

-- The cells of the links that were taken have one label, and a merge for each group less was counted.
pub record IsClimbed (links : List Link) (climb : Climb) (labels : List ℕ) : Type 0 where
  pub together : (t : ℕ) → t < climb.next → AreTogether labels (link_at links t).one (link_at links t).other
  pub counted : length labels ≤ own_count labels + climb.merges

-- no more was taken than there is, and no more merged than taken
abbrev pub IsBounded : List Link → Climb → Type 0
IsBounded links climb = (climb.next ≤ length links) × (climb.merges ≤ climb.next)

-- Numbers lead to labels of the links that were taken.
pub record ClimbsTo (links : List Link) (climb : Climb) (leads : List ℕ) : Type 0 where
  pub labels : List ℕ
  pub leads_to : LeadTo leads labels
  pub climbed : IsClimbed links climb labels

-- no link is left whose alpha is at most a number
abbrev pub IsExhausted : List Link → Climb → ℕ → Type 0
IsExhausted links climb alpha = (t : ℕ) → climb.next ≤ t → t < length links → alpha < (link_at links t).alpha

-- how many numbers are at most one
abbrev pub count_to : List ℕ → ℕ → ℕ
count_to numbers alpha = count_by (λ n. nat_le n alpha) numbers
