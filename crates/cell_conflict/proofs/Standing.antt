-- The facets that a hold shows.
use Rattle.std.specs.Prelude.{ℕ, List}
use Rattle.point_order.specs.declared.cell.Cell.{Cell}
use Rattle.point_order.specs.declared.cell.Facet.{Facet}
use Rattle.point_order.specs.Complex.{complex}
use Rattle.point_order.specs.Facets.{facets_of, points_of}
use Rattle.point_order.specs.Sets.{IsIn}
use Rattle.hole_laws.specs.Edits.{IsSet}
use Rattle.hole_laws.proofs.Cited.{on_cell}
use Rattle.cell_store.specs.Buckets.{InHand}
use Rattle.cell_store.specs.Shares.{NoneInHand, points_on}

-- where a facet is not without a bucket in hand, no cell on it is
pub held_on : (hold : InHand) (s : List ℕ) → IsSet s → (q : Cell) → IsIn q (complex s) → (f : Facet) →
    IsIn f (facets_of q) → ¬ (NoneInHand hold (points_on f)) → ¬ (NoneInHand hold (points_of q))
held_on hold s i q m f n k none = k (λ e j. none e (on_cell s i q m f n e j))
