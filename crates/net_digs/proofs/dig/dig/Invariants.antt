use Rattle.std.proofs.Common.{◌-◌, length}
use Rattle.hole_laws.specs.Digs.{IsDug}
use Rattle.cell_slots.specs.Marked.{AreMarkedFor}
use Rattle.cell_slots.specs.Nets.{cells_of_slots}
use Rattle.cell_slots.specs.Parts.{InEach}
use Rattle.net_digs.proofs.dig.dig.Given as goal

abbrev pub invariant-dig : goal.invariant-dig
invariant-dig l =
    AreMarkedFor l.p l.net l.marks l.hole.gone.items
    × InEach l.p (cells_of_slots l.net) (λ s. IsDug s l.p l.explored l.hole.gone.items l.hole.rim.items)

abbrev pub decreases-dig : goal.decreases-dig
decreases-dig l = length (cells_of_slots l.net) - l.explored
