use Rattle.tile_cells.proofs.Tiles.{inside_box_is_whole, listed_inside_box_is_whole}
use Rattle.tile_cells.proofs.cells_of_a_tile.Goals as goal

pub returns-clause-inside : goal.returns-clause-inside
returns-clause-inside c = inside_box_is_whole

pub returns-clause-listed : goal.returns-clause-listed
returns-clause-listed c = listed_inside_box_is_whole
