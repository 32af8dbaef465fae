-- What is gathered from points and cells.
use Rattle.std.specs.Prelude.{◌≡◌, ℕ}
use Rattle.point_order.specs.declared.cell.Cell.{Cell}
use Rattle.point_order.specs.Facets.{points_of}
use Rattle.point_order.specs.Sets.{IsIn}

-- the point itself
abbrev pub FromPoint : ℕ → ℕ → Type 0
FromPoint p q = p ≡ q

-- a vertex of the cell
abbrev pub FromCell : Cell → ℕ → Type 0
FromCell c p = IsIn p (points_of c)
