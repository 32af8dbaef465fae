use Rattle.cell_store.proofs.Cited.{all_are_held, point_held}
use Rattle.insertion.proofs.opening.put_cells.Goals as goal

pub reserve-requires-clause-fresh : goal.reserve-requires-clause-fresh
reserve-requires-clause-fresh c =
    all_are_held c.args.hold.now c.cells_of_four-cells.result (record {
      size = c.grid.ensures.size;
      places = c.grid.ensures.places;
    }) c.requires.all

pub reserve-requires-clause-points : goal.reserve-requires-clause-points
reserve-requires-clause-points c p i =
    point_held c.args.hold.now p (record { size = c.grid.ensures.size; places = c.grid.ensures.places }) c.requires.all
