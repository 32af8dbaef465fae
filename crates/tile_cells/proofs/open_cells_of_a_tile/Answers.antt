use Rattle.tile_cells.proofs.Planes.{above_is_whole}
use Rattle.tile_cells.proofs.open_cells_of_a_tile.Goals as goal

pub returns : goal.returns
returns c = above_is_whole
