-- What lies across a facet of a cell at hand.
use Rattle.std.specs.Prelude.{◌≡◌, ℕ, List}
use Rattle.point_order.specs.declared.cell.Cell.{Cell}
use Rattle.point_order.specs.declared.cell.Facet.{Facet}
use Rattle.point_order.specs.Complex.{complex}
use Rattle.point_order.specs.Sets.{IsIn}
use Rattle.cell_store.specs.Buckets.{InHand}
use Rattle.cell_store.specs.Shares.{Shows, IsAcross, IsInHandFor, NoneInHand, points_on}
use Rattle.cell_store.specs.Stars.{bucket_of_first}
use Rattle.cell_store.specs.declared.spot.SpotAcross.{SpotAcross}
use Rattle.cell_store.specs.declared.spot.SpotAcross.TheVariants.{Spot as AtHand, Need}

-- What is across a facet of a cell, whose buckets' points are in hand: the other
-- cell on it, for each set that the hold shows.
abbrev pub IsAcrossIn : InHand → Cell → Facet → Cell → Type 0
IsAcrossIn hold cell facet other = (s : List ℕ) → Shows hold s → IsIn cell (complex s) → IsAcross s cell facet other

-- What the call across a facet of a cell at hand gives, as `AcrossGives` says it of the cell.
abbrev pub SpotGives : InHand → Cell → Facet → SpotAcross → Type 0
SpotGives hold cell facet (AtHand other) =
    ((b : ℕ) × IsInHandFor hold (points_on facet) b) × IsAcrossIn hold cell facet other
SpotGives hold cell facet (Need b) =
    NoneInHand hold (points_on facet) × (b ≡ bucket_of_first hold.grid (points_on facet))
