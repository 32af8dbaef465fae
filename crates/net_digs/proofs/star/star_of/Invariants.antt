use Rattle.std.proofs.Common.{◌-◌, length}
use Rattle.point_order.specs.declared.cell.Cell.{Cell}
use Rattle.point_order.specs.Sets.{IsIn}
use Rattle.hole_laws.specs.Digs.{facets_of_first}
use Rattle.cell_slots.specs.Marked.{AreMarkedIn}
use Rattle.cell_slots.specs.Nets.{cells_of_slots}
use Rattle.cell_slots.specs.Parts.{InEachSet}
use Rattle.cell_slots.specs.Stars.{AreCrossedAround}
use Rattle.net_digs.proofs.star.star_of.Given as goal

abbrev pub invariant-star : goal.invariant-star
invariant-star l =
    AreMarkedIn l.net l.marks l.star.gone.items
    × ((first : Cell) × IsIn first l.star.gone.items)
    × InEachSet (cells_of_slots l.net) (λ s. AreCrossedAround s l.v
    (facets_of_first l.explored l.star.gone.items) l.star.gone.items)

abbrev pub decreases-star : goal.decreases-star
decreases-star l = length (cells_of_slots l.net) - l.explored
