use Rattle.std.proofs.Common.{◌≡◌, List, ◌++◌, take}
use Rattle.point_order.specs.declared.cell.Cell.{Cell}
use Rattle.cell_slots.specs.Marked.{AreMarkedIn}
use Rattle.cell_slots.specs.Nets.{cells_of_slots}
use Rattle.cell_slots.specs.Parts.{InEachSet}
use Rattle.cell_slots.specs.Stars.{CrossesAround}
use Rattle.net_digs.proofs.star.explore_around.Given as goal

abbrev pub invariant-loop-facet : goal.invariant-loop-facet
invariant-loop-facet l =
    ((more : List Cell) × (l.star.gone.items ≡ l.initial.star.gone.items ++ more))
    × AreMarkedIn l.net l.marks l.star.gone.items
    × InEachSet (cells_of_slots l.net) (λ s.
    CrossesAround s l.v (take l.facet-index l.facet-items) l.initial.star.gone.items l.star.gone.items)
    × (l.k ≡ l.facet-index)
