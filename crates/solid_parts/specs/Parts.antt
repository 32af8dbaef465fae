-- The solid parts of a list of cells.
use Rattle.std.specs.Prelude.{◌↔◌, ◌<◌, ℕ, List, [], length, map, slice_index_or}
use Rattle.std.specs.List.{flat_map}
use Rattle.std.specs.List.Sorted.{IsStrictlySortedBy}
use Rattle.std.specs.Ordering.{nat_cmp}
use Rattle.std.specs.Cmp.Lexicographic.{slice_cmp}
use Rattle.list_laws.specs.Lists.{AreDistinct, IsIn}
use Rattle.solid_parts.specs.Joined.{AreChained}

-- in lexicographic order, none twice
abbrev pub InOrder : List (List ℕ) → Type 0
InOrder cells = IsStrictlySortedBy (slice_cmp nat_cmp) cells

-- the first of the cells of a part
abbrev pub first_of : List (List ℕ) → List ℕ
first_of part = slice_index_or part 0 []

-- the cells of all parts
abbrev pub cells_of_parts : List (List (List ℕ)) → List (List ℕ)
cells_of_parts parts = flat_map (λ part. part) parts

-- Each cell stands in one part, and once there; with a cell just those that chains join to it are in its part. Each
-- part has a cell, its cells are in order, and the parts are in order of their first cells.
pub record AreSolidParts (cells : List (List ℕ)) (parts : List (List (List ℕ))) : Type 0 where
  pub once : AreDistinct (cells_of_parts parts)
  pub all : (q : List ℕ) → IsIn q (cells_of_parts parts) ↔ IsIn q cells
  pub joined : (part : List (List ℕ)) (q r : List ℕ) → IsIn part parts → IsIn q part → IsIn r cells →
      (IsIn r part ↔ AreChained cells q r)
  pub filled : (part : List (List ℕ)) → IsIn part parts → 0 < length part
  pub ordered : (part : List (List ℕ)) → IsIn part parts → InOrder part
  pub order : InOrder (map first_of parts)
