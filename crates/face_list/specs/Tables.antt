-- Faces by numbers: each key of a table has a stretch of one list of numbers, which name cells of one list of cells.
use Rattle.std.specs.Prelude.{◌≡◌, ℕ, ◌-◌, ◌≤◌, ◌<◌, All, List, [], ◌∷◌, map, take, drop, length, slice_index_or}
use Rattle.point_order.specs.declared.cell.Cell.{Cell}
use Rattle.point_order.specs.declared.cell.Cell.TheVariants.{Full}
use Rattle.face_list.specs.declared.table.Table.{Table}

-- the cell of a number
abbrev pub cell_at : List Cell → ℕ → Cell
cell_at cells n = slice_index_or cells n (Full [])

-- the cells of some numbers
abbrev pub cells_numbered : List Cell → List ℕ → List Cell
cells_numbered cells numbers = map (cell_at cells) numbers

-- the stretches of a list that end at some places, the first of them beginning at `start`
abbrev pub stretches : List ℕ → ℕ → List ℕ → List (List ℕ)
stretches numbers start [] = []
stretches numbers start (stop ∷ stops) = take (stop - start) (drop start numbers) ∷ stretches numbers stop stops

-- each stretch ends where it begins or later, and the last at `most`
abbrev pub AreStops : ℕ → ℕ → List ℕ → Type 0
AreStops start most [] = start ≡ most
AreStops start most (stop ∷ stops) = (start ≤ stop) × AreStops stop most stops

-- as many keys as lists, each with its list
abbrev pub paired : {X Y : Type 0} → List X → List Y → List (X × Y)
paired [] ys = []
paired (x ∷ xs) [] = []
paired (x ∷ xs) (y ∷ ys) = (x, y) ∷ paired xs ys

-- what a table shows: each key with the cells of its numbers
abbrev pub table_seen : {K : Type 0} → List Cell → Table K → List (K × List Cell)
table_seen cells t = paired t.keys.items (map (cells_numbered cells) (stretches t.numbers.items 0 t.ends.items))

-- The table has a stretch for each key, and its numbers are those of cells of a list of `count`.
pub record IsTable {K : Type 0} (count : ℕ) (t : Table K) : Type 0 where
  pub ends : length t.ends.items ≡ length t.keys.items
  pub stops : AreStops 0 (length t.numbers.items) t.ends.items
  pub numbers : All (λ n. n < count) t.numbers.items
