-- Lists of cells and their places.
use Rattle.std.specs.Prelude.{◌≡◌, ℕ, ◌<◌, ◌≤◌, List, length, slice_index_or}
use Rattle.point_order.specs.declared.cell.Cell.{Cell}

-- the list has no such place
abbrev pub IsPast : List Cell → ℕ → Type 0
IsPast l i = length l ≤ i

-- the cell at a place
pub record IsAtPlace (l : List Cell) (i : ℕ) (cell : Cell) : Type 0 where
  pub below : i < length l
  pub at : cell ≡ slice_index_or l i cell
