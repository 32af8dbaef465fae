-- The cells at a point, and what lies across a facet.
use Rattle.std.specs.Prelude.{◌≡◌, ℕ, List, [], ◌∷◌}
use Rattle.point_order.specs.declared.cell.Cell.{Cell}
use Rattle.point_order.specs.declared.cell.Facet.{Facet}
use Rattle.point_order.specs.Complex.{complex}
use Rattle.point_order.specs.Sets.{IsIn}
use Rattle.bucket_grid.specs.Grids.{bucket_of}
use Rattle.cell_store.specs.Buckets.{InHand}
use Rattle.cell_store.specs.Shares.{Shows, IsAcross, IsInHandFor, NoneInHand, points_on}
use Rattle.cell_store.specs.declared.star.Across.{Across}
use Rattle.cell_store.specs.declared.star.Across.TheVariants.{Cell as Found, Need}
pub use Rattle.cell_stars.specs.Stars.{cells_left, cells_around, cells_to_come}

-- the bucket of the first point of a list
abbrev pub bucket_of_first : ℕ → List ℕ → ℕ
bucket_of_first g [] = 0
bucket_of_first g (p ∷ ps) = bucket_of g p

-- What the call across a facet of a cell gives. A cell, where the bucket of some point of the facet is in hand: the
-- other cell on the facet, for each set that the hold shows. Else the number of the bucket of the facet's least point.
abbrev pub AcrossGives : InHand → Cell → Facet → Across → Type 0
AcrossGives hold cell facet (Found other) =
    ((b : ℕ) × IsInHandFor hold (points_on facet) b)
    × ((s : List ℕ) → Shows hold s → IsIn cell (complex s) → IsAcross s cell facet other.now)
AcrossGives hold cell facet (Need b) =
    NoneInHand hold (points_on facet) × (b ≡ bucket_of_first hold.grid (points_on facet))
