use Rattle.std.proofs.Common.{ℕ, ◌≡◌, List, ◌++◌, take}
use Rattle.point_order.specs.declared.cell.Cell.{Cell}
use Rattle.point_order.specs.declared.cell.Facet.{Facet}
use Rattle.point_order.specs.Facets.{facets_of}
use Rattle.cell_store.specs.Shares.{Shows}
use Rattle.hole_laws.specs.Digs.{AreCrossed, IsCrossedAt, AreUncrossed}
use Rattle.cavity.proofs.explore.explore.Given as goal

abbrev pub invariant-loop-facet : goal.invariant-loop-facet
invariant-loop-facet l =
    ((more : List Cell) × (l.judged ≡ l.initial.judged ++ more))
    × ((s : List ℕ) → Shows l.hold s → (crossed : List Facet) →
    IsCrossedAt s l.point crossed l.cell l.initial.judged l.initial.rim.items →
    AreUncrossed s l.point crossed (facets_of l.cell) →
    AreCrossed s l.point (crossed ++ take l.facet-index l.facet-items) l.judged l.rim.items)
