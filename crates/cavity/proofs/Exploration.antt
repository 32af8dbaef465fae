-- The buckets of the facets of a found cell.
use Rattle.std.specs.Prelude.{ℕ, List}
use Rattle.list_laws.proofs.Cited.{none_there}
use Rattle.point_order.specs.declared.cell.Cell.{Cell}
use Rattle.point_order.specs.declared.cell.Facet.{Facet}
use Rattle.point_order.specs.Complex.{complex}
use Rattle.point_order.specs.Facets.{facets_of, points_of}
use Rattle.point_order.specs.Sets.{IsIn}
use Rattle.hole_laws.specs.Edits.{IsSet}
use Rattle.hole_laws.proofs.Cited.{on_cell, some_on}
use Rattle.cell_store.specs.Buckets.{InHand, bucket_at}
use Rattle.bucket_grid.specs.Grids.{bucket_of}
use Rattle.cell_store.specs.Missing.{ArePointsHeld}
use Rattle.cell_store.specs.Shares.{NoneInHand, points_on}

-- where the buckets of a cell's points are in hand, each facet has one
pub facet_held : (hold : InHand) (s : List ℕ) → IsSet s → (q : Cell) → IsIn q (complex s) →
    ArePointsHeld hold (points_of q) → (f : Facet) → IsIn f (facets_of q) → ¬ (NoneInHand hold (points_on f))
facet_held hold s i q m held f n none =
    let e = some_on s i q m f n in
    none_there (bucket_at hold.places (bucket_of hold.grid e.0)) (none e.0 e.1) (held e.0 (on_cell s i q m f n e.0 e.1))
