-- The laws of walks over the cells of buckets in hand.
use Rattle.std.specs.Prelude.{◌≡◌, ℕ, ◌<◌, true, List, Some}
use Rattle.list_laws.specs.Lists.{AreDistinct}
use Rattle.point_order.specs.declared.cell.Cell.{Cell}
use Rattle.point_order.specs.declared.cell.Facet.{Facet}
use Rattle.point_order.specs.Complex.{complex}
use Rattle.point_order.specs.Facets.{facets_of}
use Rattle.point_order.specs.Sets.{IsIn}
use Rattle.del_laws.specs.Nearness.{rank}
use Rattle.del_laws.specs.Walks.{is_before}
use Rattle.hole_laws.specs.Edits.{IsSet, IsSolidSet, IsNew, StaysFrom}
use Rattle.cell_store.specs.Buckets.{InHand}
use Rattle.cell_store.specs.Meshes.{AreAmong}
use Rattle.hole_laws.specs.Others.{IsOtherOf}
use Rattle.cell_store.specs.Shares.{Shows, IsAcross, IsInHandFor, points_on}
use Rattle.cell_walk.specs.Paths.{Walking, nearer_held, facet_towards, ComesNearer, IsWalkIn}
use Rattle.cell_walk.specs.Turns.{StartGives}
use Rattle.cell_walk.specs.declared.walk.Start.TheVariants.{At}

-- across the facet towards p of a listed cell that stays, the cell is nearer
abbrev pub NearerTowards : Type 0
NearerTowards =
    (s : List ℕ) (p : ℕ) (c other : Cell) (f : Facet) → IsSet s → IsNew s p → StaysFrom s p c →
    facet_towards c p ≡ Some f →
    IsOtherOf (complex s) c f other → is_before (rank s p other) (rank s p c) ≡ true

-- a listed cell that stays has a facet towards p
abbrev pub SomeFacetTowards : Type 0
SomeFacetTowards =
    (s : List ℕ) (p : ℕ) (c : Cell) → IsSolidSet s → IsNew s p → StaysFrom s p c →
    (f : Facet) × (facet_towards c p ≡ Some f) × IsIn f (facets_of c)

-- Where a bucket of a point of that facet is in hand, fewer cells of the buckets in hand are nearer than the
-- other cell on it.
abbrev pub FewerAcross : Type 0
FewerAcross =
    (hold : InHand) (s : List ℕ) (p : ℕ) (c other : Cell) (f : Facet) (b : ℕ) → Shows hold s → IsNew s p →
    StaysFrom s p c →
    facet_towards c p ≡ Some f → IsAcross s c f other → IsInHandFor hold (points_on f) b →
    nearer_held s p hold.places other < nearer_held s p hold.places c

-- A walk visits no cell twice, also where buckets come to the hold between its steps.
abbrev pub NoCellTwice : Type 0
NoCellTwice = (s : List ℕ) (p : ℕ) (cells : List Cell) → ComesNearer s p cells → AreDistinct cells

-- what starts is a walk to the new point
abbrev pub StartIsWalk : Type 0
StartIsWalk =
    (hold : InHand) (s : List ℕ) (p : ℕ) (w : Walking) → Shows hold s → IsNew s p → StartGives hold p (At w) →
    IsWalkIn hold s w

-- with more buckets in hand it is one
abbrev pub WalkStays : Type 0
WalkStays = (few many : InHand) (s : List ℕ) (w : Walking) → AreAmong few many → IsWalkIn few s w → IsWalkIn many s w
