use Rattle.std.proofs.Common.{◌≡◌, List, ◌++◌, take}
use Rattle.point_order.specs.declared.cell.Cell.{Cell}
use Rattle.point_order.specs.declared.cell.Facet.{Facet}
use Rattle.point_order.specs.Facets.{facets_of}
use Rattle.hole_laws.specs.Digs.{AreCrossed, AreUncrossed, IsCrossedAt}
use Rattle.cell_slots.specs.Marked.{AreMarkedFor}
use Rattle.cell_slots.specs.Nets.{cells_of_slots}
use Rattle.cell_slots.specs.Parts.{InEach}
use Rattle.net_digs.proofs.dig.explore.Given as goal

abbrev pub invariant-loop-facet : goal.invariant-loop-facet
invariant-loop-facet l =
    ((more : List Cell) × (l.hole.gone.items ≡ l.initial.hole.gone.items ++ more))
    × InEach l.p (cells_of_slots l.net) (λ s. (crossed : List Facet) →
    IsCrossedAt s l.p crossed l.spot l.initial.hole.gone.items l.initial.hole.rim.items →
    AreUncrossed s l.p crossed (facets_of l.spot) → AreCrossed s l.p (crossed ++ take l.facet-index l.facet-items)
    l.hole.gone.items l.hole.rim.items)
    × AreMarkedFor l.p l.net l.marks l.hole.gone.items
    × (l.k ≡ l.facet-index)
