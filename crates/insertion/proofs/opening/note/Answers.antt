use Rattle.cell_store.proofs.Cited.{point_held}
use Rattle.insertion.proofs.opening.note.Goals as goal

pub reserve-requires-clause-points : goal.reserve-requires-clause-points
reserve-requires-clause-points c p i =
    point_held c.args.hold.now p (record { size = c.grid.ensures.size; places = c.grid.ensures.places }) c.requires
