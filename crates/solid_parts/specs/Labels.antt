-- Labels of the cells of a complex by the triples that they share.
use Rattle.std.specs.Prelude.{◌≡◌, ◌<◌, ℕ, Bool, All, List, [], ◌∷◌, length, slice_index_or}
use Rattle.point_order.specs.declared.cell.Cell.{Cell}
use Rattle.list_laws.specs.Lists.{IsIn}
use Rattle.face_list.specs.Seen.{FaceLists}
use Rattle.face_list.specs.Tables.{cell_at, cells_numbered}
use Rattle.solid_parts.specs.Groups.{AreTogether, IsMarkedAt, label_at}

-- two marked cells, told by their numbers, share a triple that is listed
pub record AreBeside (faces : FaceLists) (marks : List Bool) (i j : ℕ) : Type 0 where
  pub triple : List ℕ × List Cell
  pub listed : IsIn triple faces.triples
  pub first : IsIn (cell_at faces.cells i) triple.1
  pub second : IsIn (cell_at faces.cells j) triple.1
  pub first_marked : IsMarkedAt marks i
  pub second_marked : IsMarkedAt marks j

-- numbers of cells lead from one to another, each beside the one before it
abbrev pub IsPath : FaceLists → List Bool → ℕ → List ℕ → ℕ → Type 0
IsPath faces marks i [] j = i ≡ j
IsPath faces marks i (m ∷ path) j = AreBeside faces marks i m × IsPath faces marks m path j

-- The numbers are those of the cells around a triple, and all marked ones have one label.
pub record HaveOneLabel (faces : FaceLists) (marks : List Bool) (labels : List ℕ) (triple : List ℕ × List Cell) : Type 0
  where
    pub numbers : List ℕ
    pub around : cells_numbered faces.cells numbers ≡ triple.1
    pub below : All (λ n. n < length faces.cells) numbers
    pub alike : (u v : ℕ) → IsIn u numbers → IsIn v numbers → IsMarkedAt marks u → IsMarkedAt marks v →
        AreTogether labels u v

-- Where the first k triples are done: marked cells around one of them have one label, and where two cells have one
-- label a path leads from one to the other.
pub record AreLabels (faces : FaceLists) (marks : List Bool) (k : ℕ) (labels : List ℕ) : Type 0 where
  pub count : length labels ≡ length faces.cells
  pub below : (i : ℕ) → i < length labels → label_at labels i < length faces.cells
  pub joined : (t : ℕ) → t < k → HaveOneLabel faces marks labels (slice_index_or faces.triples t ([], []))
  pub only : (i j : ℕ) → i < length faces.cells → j < length faces.cells → AreTogether labels i j →
      (path : List ℕ) × IsPath faces marks i path j
