use Rattle.std.proofs.Common.{ℕ, ◌-◌, List}
use Rattle.point_order.specs.declared.cell.Cell.{Cell}
use Rattle.point_order.specs.Sets.{IsIn}
use Rattle.hole_laws.specs.Digs.{facets_of_first}
use Rattle.cell_slots.specs.Clouds.{AreCellsOf}
use Rattle.net_owner.specs.Nearest.{AreLookedAt}
use Rattle.cell_slots.specs.Nets.{cells_of_slots}
use Rattle.cell_slots.specs.Stars.{AreCrossedAround}
use Rattle.net_owner.proofs.around.look.Given as goal

abbrev pub invariant-look : goal.invariant-look
invariant-look l =
    AreLookedAt l.aim.place l.aim.point (cells_of_slots l.net) l.around
    × ((first : Cell) × IsIn first l.around)
    × ((s : List ℕ) → AreCellsOf s (cells_of_slots l.net) →
    AreCrossedAround s l.aim.point (facets_of_first l.explored l.around) l.around)

abbrev pub decreases-look : goal.decreases-look
decreases-look l = 128 - l.explored
