-- whatever is marked is the cell of a slot
use Rattle.point_order.specs.declared.cell.Cell.TheVariants.{Full, Open}
use Rattle.cloud_cells.specs.Known.{AreMarkedAmong}
use Rattle.cell_slots.specs.Nets.{cells_of_slots}
use Rattle.cloud_cells.proofs.known.known_in.Given as goal

abbrev pub invariant-loop-slot : goal.invariant-loop-slot
invariant-loop-slot l =
    AreMarkedAmong (cells_of_slots l.slots) Full l.cells l.quads.items
    × AreMarkedAmong (cells_of_slots l.slots) Open l.hull l.triples.items
