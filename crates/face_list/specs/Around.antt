-- Tables gathered point by point.
use Rattle.std.specs.Prelude.{◌≡◌, ℕ, ◌≤◌, ◌<◌, ◌⊎◌, ◌↔◌, List, map, length, slice_index_or}
use Rattle.std.specs.List.Sorted.{IsStrictlySortedBy}
use Rattle.std.specs.declared.cmp.Ordering.{Ordering}
use Rattle.point_order.specs.declared.cell.Cell.{Cell}
use Rattle.point_order.specs.Sets.{IsIn}
use Rattle.face_list.specs.declared.around.Gathering.{Gathering}
use Rattle.face_list.specs.declared.table.Table.{Table}
use Rattle.face_list.specs.Gather.{IsPointTable, item_cmp, full_keys, items_from, numbers_of}
use Rattle.face_list.specs.Tables.{AreStops, stretches}

-- the first point of a part
abbrev pub first_point : List ℕ → ℕ
first_point part = slice_index_or part 0 0

-- what was put behind old items has a number, and its keys are parts that begin with a point
abbrev pub ArePartsPut : {K : Type 0} → List K → (K → ℕ) → ℕ → ℕ → List (K × ℕ) → List (K × ℕ) → Type 0
ArePartsPut {K} parts first_of number first old new =
    (i : K × ℕ) → IsIn i new → IsIn i old ⊎ (IsIn i.0 parts × (i.1 ≡ number) × (first_of i.0 ≡ first))

-- The table has the keys of Full cells among some items, each with its numbers: `sorted` are the items so far in order,
-- all of them within some set and their keys within some range.
pub record AreGathered {K : Type 0} (cmp : K → K → Ordering) (cells : List Cell) (all : List (K × ℕ))
    (within : K → Type 0) (g : Gathering K) : Type 0 where
  pub sorted : List (K × ℕ)
  pub order : IsStrictlySortedBy (item_cmp cmp) sorted
  pub sound : (i : K × ℕ) → IsIn i sorted → IsIn i all
  pub ranged : (i : K × ℕ) → IsIn i sorted → within i.0
  pub counted : length sorted ≡ g.count
  pub keys_order : IsStrictlySortedBy cmp g.table.keys.items
  pub keys : (k : K) → IsIn k g.table.keys.items ↔ IsIn k (full_keys cells sorted)
  pub ends : length g.table.ends.items ≡ length g.table.keys.items
  pub stops : AreStops 0 (length g.table.numbers.items) g.table.ends.items
  pub lists : stretches g.table.numbers.items 0 g.table.ends.items ≡ map (numbers_of cmp sorted) g.table.keys.items
  pub numbers : (n : ℕ) → IsIn n g.table.numbers.items → IsIn n (map (λ i. i.1) sorted)

-- a part begins with one of the points from one index to another
pub record BeginsWithin {K : Type 0} (first_of : K → ℕ) (points : List ℕ) (from to : ℕ) (part : K) : Type 0 where
  pub index : ℕ
  pub not_before : from ≤ index
  pub before : index < to
  pub is : first_of part ≡ slice_index_or points index 0

-- gathered are items of cells, whose parts begin with the points of a table from one index to another
pub record GathersPoints {K : Type 0} (cmp : K → K → Ordering) (parts_of : Cell → List K) (first_of : K → ℕ)
    (cells : List Cell) (points : Table ℕ) (from to : ℕ) (g : Gathering K) : Type 0 where
  pub items : AreGathered cmp cells (items_from 0 parts_of cells) (BeginsWithin first_of points.keys.items from to) g
  pub begin : g.from ≡ from
  pub end : g.to ≡ to
  pub order : from ≤ to
  pub within : to ≤ length points.keys.items

-- to what was gathered of the points of a table, those up to an index may be added
pub record CanAdd {K : Type 0} (cmp : K → K → Ordering) (parts_of : Cell → List K) (first_of : K → ℕ)
    (cells : List Cell) (points : Table ℕ) (g : Gathering K) (to : ℕ) : Type 0 where
  pub over : IsPointTable cells points
  pub so_far : GathersPoints cmp parts_of first_of cells points g.from g.to g
  pub range : g.to ≤ to
  pub within : to ≤ length points.keys.items
