-- Cells that are gathered under keys, as `gather` promises them. An item is a key with the number of a cell.
use Rattle.std.specs.Prelude.{◌≡◌, ℕ, suc, ◌^◌, ◌<◌, ◌↔◌, Bool, true, false, List, [], ◌∷◌, ◌++◌, map, length}
use Rattle.std.specs.List.{filter}
use Rattle.std.specs.List.Sorted.{IsStrictlySortedBy}
use Rattle.std.specs.Ordering.{nat_cmp, is_eq, ordering_then}
use Rattle.std.specs.declared.cmp.Ordering.{Ordering}
use Rattle.point_order.specs.declared.cell.Cell.{Cell}
use Rattle.point_order.specs.declared.cell.Cell.TheVariants.{Full, Open}
use Rattle.point_order.specs.Facets.{points_of}
use Rattle.point_order.specs.Sets.{IsAscending, IsIn}
use Rattle.face_list.specs.declared.table.Table.{Table}
use Rattle.face_list.specs.Tables.{IsTable, cell_at, stretches}

-- the cell is Full
abbrev pub is_a_full_cell : Cell → Bool
is_a_full_cell (Full q) = true
is_a_full_cell (Open t) = false

-- by keys, and those of one key by numbers
abbrev pub item_cmp : {K : Type 0} → (K → K → Ordering) → K × ℕ → K × ℕ → Ordering
item_cmp cmp i j = ordering_then (cmp i.0 j.0) (nat_cmp i.1 j.1)

-- the numbers of the items with a key, in their order
abbrev pub numbers_of : {K : Type 0} → (K → K → Ordering) → List (K × ℕ) → K → List ℕ
numbers_of cmp items k = map (λ i. i.1) (filter (λ i. is_eq (cmp i.0 k)) items)

-- the keys of the items of Full cells
abbrev pub full_keys : {K : Type 0} → List Cell → List (K × ℕ) → List K
full_keys cells items = map (λ i. i.0) (filter (λ i. is_a_full_cell (cell_at cells i.1)) items)

-- the number of each cell under each of its parts, cell by cell, the cells counted from `first`
abbrev pub items_from : {K : Type 0} → ℕ → (Cell → List K) → List Cell → List (K × ℕ)
items_from first parts [] = []
items_from first parts (c ∷ cells) = map (λ p. (p, first)) (parts c) ++ items_from (suc first) parts cells

-- each item names a cell of a list of `count`
abbrev pub AreItems : {K : Type 0} → ℕ → List (K × ℕ) → Type 0
AreItems {K} count items = (i : K × ℕ) → IsIn i items → i.1 < count

-- The table has the keys of the Full cells' items, in order and each once, and each has the numbers of its items, in
-- order and each once: `sorted` are the items so.
pub record GathersItems {K : Type 0} (cmp : K → K → Ordering) (cells : List Cell) (items : List (K × ℕ))
    (t : Table K) : Type 0 where
  pub sorted : List (K × ℕ)
  pub order : IsStrictlySortedBy (item_cmp cmp) sorted
  pub same : (i : K × ℕ) → IsIn i sorted ↔ IsIn i items
  pub keys_order : IsStrictlySortedBy cmp t.keys.items
  pub keys : (k : K) → IsIn k t.keys.items ↔ IsIn k (full_keys cells sorted)
  pub lists : stretches t.numbers.items 0 t.ends.items ≡ map (numbers_of cmp sorted) t.keys.items

-- the points of each cell ascend
abbrev pub AreAscending : List Cell → Type 0
AreAscending [] = Unit {0}
AreAscending (c ∷ cells) = IsAscending (points_of c) × AreAscending cells

-- The table is that of the points of cells that 32 bits count: the points of each cell ascend, and so do its keys.
pub record IsPointTable (cells : List Cell) (points : Table ℕ) : Type 0 where
  pub few : length cells < 2 ^ 32
  pub ascending : AreAscending cells
  pub table : IsTable (length cells) points
  pub order : IsStrictlySortedBy nat_cmp points.keys.items
