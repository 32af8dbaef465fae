use Rattle.std.proofs.Common.{ℕ, ◌≡◌, List, ◌++◌, take}
use Rattle.point_order.specs.declared.cell.Cell.{Cell}
use Rattle.cell_slots.specs.Clouds.{AreCellsOf}
use Rattle.net_owner.specs.Nearest.{AreLookedAt}
use Rattle.cell_slots.specs.Nets.{cells_of_slots}
use Rattle.cell_slots.specs.Stars.{CrossesAround}
use Rattle.net_owner.proofs.around.explore.Given as goal

abbrev pub invariant-loop-facet : goal.invariant-loop-facet
invariant-loop-facet l =
    ((more : List Cell) × (l.around ≡ l.initial.around ++ more))
    × AreLookedAt l.aim.place l.aim.point (cells_of_slots l.net) l.around
    × ((s : List ℕ) → AreCellsOf s (cells_of_slots l.net) →
    CrossesAround s l.aim.point (take l.facet-index l.facet-items) l.initial.around l.around)
    × (l.k ≡ l.facet-index)
