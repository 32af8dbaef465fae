use Rattle.tile_cells.proofs.Left.{found_or_left, only_one_left}
use Rattle.tile_cells.proofs.cells_that_are_left.Goals as goal

pub returns-clause-left : goal.returns-clause-left
returns-clause-left c = found_or_left

pub returns-clause-only : goal.returns-clause-only
returns-clause-only c = only_one_left
