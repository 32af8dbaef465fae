-- Marked cells in lists by their labels.
use Rattle.std.specs.Prelude.{◌≡◌, ◌<◌, ◌⊎◌, ℕ, Bool, List, [], ◌∷◌, ◌++◌, length, map, Option, None, Some}
use Rattle.std.specs.Prelude.{slice_index_or, slice_set}
use Rattle.list_laws.specs.Lists.{IsIn}
use Rattle.point_order.specs.declared.cell.Cell.{Cell}
use Rattle.point_order.specs.declared.cell.Cell.TheVariants.{Full}
use Rattle.face_list.specs.Tables.{cell_at}
use Rattle.solid_parts.specs.Groups.{AreTogether, IsMarkedAt}
use Rattle.solid_parts.specs.Parts.{InOrder, first_of}

-- where the cells of a label are put, if any were
abbrev pub place_at : List (Option ℕ) → ℕ → Option ℕ
place_at places label = slice_index_or places label None

-- the list at a place
abbrev pub cells_at_place : List (List (List ℕ)) → ℕ → List (List ℕ)
cells_at_place parts p = slice_index_or parts p []

-- a cell was put behind those of its label, or alone behind all lists where it is the first of its label
abbrev pub IsGroupedIn : ℕ → List ℕ → List (Option ℕ) → List (Option ℕ) → List (List (List ℕ)) →
    List (List (List ℕ)) → Type 0
IsGroupedIn label q old_places places old parts =
    ((p : ℕ) × (place_at old_places label ≡ Some p) × (places ≡ old_places)
    × (parts ≡ slice_set old p (cells_at_place old p ++ q ∷ [])))
    ⊎ ((place_at old_places label ≡ None) × (places ≡ slice_set old_places label (Some (length old)))
    × (parts ≡ old ++ (q ∷ []) ∷ []))

-- the number of a marked Full cell
pub record IsMarkedNumber (cells : List Cell) (marks : List Bool) (q : List ℕ) (i : ℕ) : Type 0 where
  pub marked : IsMarkedAt marks i
  pub cell : cell_at cells i ≡ Full q

-- The marked Full cells among the first k are in the lists, each in one, and two in the same where they have one
-- label. Each list is in order, and the lists are by their first cells.
pub record IsGathered (cells : List Cell) (marks : List Bool) (labels : List ℕ) (k : ℕ)
    (parts : List (List (List ℕ))) : Type 0 where
  pub put : (i : ℕ) (q : List ℕ) → i < k → IsMarkedNumber cells marks q i →
      (p : ℕ) × (p < length parts) × IsIn q (cells_at_place parts p)
  pub only : (p : ℕ) (q : List ℕ) → p < length parts → IsIn q (cells_at_place parts p) →
      (i : ℕ) × (i < k) × IsMarkedNumber cells marks q i
  pub once : (p y : ℕ) (q : List ℕ) → p < length parts → y < length parts → IsIn q (cells_at_place parts p) →
      IsIn q (cells_at_place parts y) → p ≡ y
  pub together : (p i j : ℕ) (q r : List ℕ) → p < length parts → i < k → j < k → IsMarkedNumber cells marks q i →
      IsMarkedNumber cells marks r j → IsIn q (cells_at_place parts p) → AreTogether labels i j →
      IsIn r (cells_at_place parts p)
  pub apart : (p i j : ℕ) (q r : List ℕ) → p < length parts → i < k → j < k → IsMarkedNumber cells marks q i →
      IsMarkedNumber cells marks r j → IsIn q (cells_at_place parts p) → IsIn r (cells_at_place parts p) →
      AreTogether labels i j
  pub filled : (p : ℕ) → p < length parts → 0 < length (cells_at_place parts p)
  pub ordered : (p : ℕ) → p < length parts → InOrder (cells_at_place parts p)
  pub order : InOrder (map first_of parts)
