-- Numbers in groups, each with the label of its group.
use Rattle.std.specs.Prelude.{◌≡◌, ◌<◌, ◌≤◌, ◌⊎◌, ℕ, true, false, Bool, List, map, length, ◌==◌, slice_index_or}
use Rattle.std.specs.Prelude.{if◌then◌else◌}
use Rattle.list_laws.specs.Lists.{IsIn}

-- the label of a number
abbrev pub label_at : List ℕ → ℕ → ℕ
label_at labels i = slice_index_or labels i 0

-- two numbers are in one group
abbrev pub AreTogether : List ℕ → ℕ → ℕ → Type 0
AreTogether labels i j = label_at labels i ≡ label_at labels j

-- the label of what had one, where one label goes over into another
abbrev pub moved : ℕ → ℕ → ℕ → ℕ
moved from to label = if label == from then to else label

-- the group of one label goes over into that of another
abbrev pub merged : ℕ → ℕ → List ℕ → List ℕ
merged from to labels = map (moved from to) labels

-- the groups of two numbers are one from now on, in one way or the other
abbrev pub AreMerged : ℕ → ℕ → List ℕ → List ℕ → Type 0
AreMerged i j old new =
    (new ≡ merged (label_at old i) (label_at old j) old) ⊎ (new ≡ merged (label_at old j) (label_at old i) old)

-- each number leads to itself or to a lesser one
abbrev pub LeadDown : List ℕ → Type 0
LeadDown leads = (i : ℕ) → i < length leads → label_at leads i ≤ i

-- the number to which that leads to which one leads
abbrev pub twice : List ℕ → ℕ → ℕ
twice leads i = label_at leads (label_at leads i)

-- Each number leads to one of its label, and to itself only where it is that.
pub record LeadTo (leads labels : List ℕ) : Type 0 where
  pub count : length labels ≡ length leads
  pub along : (i : ℕ) → i < length leads → label_at labels (label_at leads i) ≡ label_at labels i
  pub ends : (i : ℕ) → i < length leads → label_at leads i ≡ i → label_at labels i ≡ i

-- The numbers lead to labels after a merge of two groups. Where the two were not apart, they had one label.
pub record IsMerged (i j : ℕ) (labels : List ℕ) (apart : Bool) (leads : List ℕ) : Type 0 where
  pub new : List ℕ
  pub leads_to : LeadTo leads new
  pub merges : AreMerged i j labels new
  pub same : apart ≡ false → AreTogether labels i j

-- a number is marked
abbrev pub IsMarkedAt : List Bool → ℕ → Type 0
IsMarkedAt marks i = slice_index_or marks i false ≡ true

-- a number was in one group with a marked number of a list
abbrev pub MeetsMarked : List ℕ → List Bool → List ℕ → ℕ → Type 0
MeetsMarked labels marks numbers i = (u : ℕ) × IsIn u numbers × IsMarkedAt marks u × AreTogether labels i u

-- The groups that the marked numbers of a list reach are one from now on, and nothing else changes.
pub record AreJoinedAll (marks : List Bool) (numbers old new : List ℕ) : Type 0 where
  pub count : length new ≡ length old
  pub kept : (i j : ℕ) → i < length old → j < length old → AreTogether old i j → AreTogether new i j
  pub joined : (u v : ℕ) → IsIn u numbers → IsIn v numbers → IsMarkedAt marks u → IsMarkedAt marks v →
      AreTogether new u v
  pub only : (i j : ℕ) → i < length old → j < length old → AreTogether new i j →
      AreTogether old i j ⊎ (MeetsMarked old marks numbers i × MeetsMarked old marks numbers j)
  pub among : (i : ℕ) → i < length old → (j : ℕ) × (j < length old) × (label_at new i ≡ label_at old j)

-- The numbers lead to such labels.
pub record AreAllJoined (marks : List Bool) (numbers labels leads : List ℕ) : Type 0 where
  pub new : List ℕ
  pub leads_to : LeadTo leads new
  pub joins : AreJoinedAll marks numbers labels new

-- all labels are below a count
abbrev pub AreLabelsBelow : ℕ → List ℕ → Type 0
AreLabelsBelow count labels = (i : ℕ) → i < length labels → label_at labels i < count
