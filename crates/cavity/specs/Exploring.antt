-- The steps of a dig, in a set that a hold shows.
use Rattle.std.specs.Prelude.{ℕ, List}
use Rattle.point_order.specs.declared.cell.Cell.{Cell}
use Rattle.point_order.specs.declared.cell.Facet.{Facet}
use Rattle.point_order.specs.Facets.{facets_of}
use Rattle.hole_laws.specs.Digs.{AreUncrossed, IsCrossedAt}
use Rattle.cell_store.specs.Buckets.{InHand}
use Rattle.cell_store.specs.Shares.{Shows}

-- the hold shows a set in which some facets of found cells were crossed, and the cell is one of those found
abbrev pub ShowsAt : InHand → ℕ → Cell → List Cell → List Facet → Type 0
ShowsAt hold p cell found rim = (s : List ℕ) × Shows hold s × (crossed : List Facet)
    × IsCrossedAt s p crossed cell found rim

-- and no rim facet of the cell was crossed
abbrev pub ShowsNewAt : InHand → ℕ → Cell → List Cell → List Facet → Type 0
ShowsNewAt hold p cell found rim =
    (s : List ℕ) × Shows hold s × (crossed : List Facet) × IsCrossedAt s p crossed cell found rim
    × AreUncrossed s p crossed (facets_of cell)
