-- The cells that iterators have still to give.
use Rattle.std.specs.Prelude.{List, []}
use Rattle.std.specs.List.{filter}
use Rattle.point_order.specs.declared.cell.Cell.{Cell}
use Rattle.cell_stars.specs.Swaps.{with_all_cells}
use Rattle.cell_stars.specs.Places.{live, named, is_after}
use Rattle.cell_stars.specs.declared.star.Star.{Star}
use Rattle.cell_stars.specs.declared.star.StarCells.{StarCells}
use Rattle.cell_stars.specs.declared.star.BucketCells.{BucketCells}

-- the cells at the places of the star, in order, behind the bound
abbrev pub cells_left : Star → List Cell
cells_left s = filter (is_after s.bound) (with_all_cells (named s.slots.now s.star.now) [])

-- the cells at the places of a star, in no order
abbrev pub cells_around : StarCells → List Cell
cells_around s = named s.slots.now s.star.now

-- the cells at all places
abbrev pub cells_to_come : BucketCells → List Cell
cells_to_come s = live s.slots.now
