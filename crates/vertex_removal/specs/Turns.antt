-- What a turn of a refill answers, for a hold of buckets.
use Rattle.std.specs.Prelude.{◌≡◌, ℕ, ◌<◌, false, List, None}
use Rattle.point_order.specs.declared.cell.Cell.{Cell}
use Rattle.point_order.specs.Complex.{complex}
use Rattle.point_order.specs.Facets.{points_of}
use Rattle.point_order.specs.Sets.{IsIn, without_point}
use Rattle.point_order.specs.Solid.{is_solid}
use Rattle.bucket_grid.specs.Grids.{bucket_of}
use Rattle.cell_store.specs.Buckets.{InHand, bucket_at}
use Rattle.cell_store.specs.Shares.{Shows}
use Rattle.cell_store.specs.Ready.{AreHeld}
use Rattle.vertex_removal.specs.declared.refill.RefillTurn.{RefillTurn}
use Rattle.vertex_removal.specs.declared.refill.RefillTurn.TheVariants.{Done, Flat, Need}
use Rattle.cell_changes.specs.Changes.{IsRefilled}

-- the hold shows a set of which v is a point
abbrev pub ShowsWithPoint : InHand → ℕ → Type 0
ShowsWithPoint hold v = (s : List ℕ) × Shows hold s × IsIn v s

-- bucket b is not in hand, and has a finite point of a cell at v
pub record IsNeededAround (hold : InHand) (s : List ℕ) (v b : ℕ) : Type 0 where
  pub absent : bucket_at hold.places b ≡ None
  pub cell : Cell
  pub listed : IsIn cell (complex s)
  pub has_v : IsIn v (points_of cell)
  pub point : ℕ
  pub has : IsIn point (points_of cell)
  pub number : b ≡ bucket_of hold.grid point

-- there is no such bucket
abbrev pub NoneIsNeededAround : InHand → List ℕ → ℕ → Type 0
NoneIsNeededAround hold s v = (b : ℕ) → IsNeededAround hold s v b → ⊥

-- Need: a bucket that is needed. Flat where none is needed and the set without v is not solid. Done
-- where none is needed and it is solid; then there are the cells that go and those that come, and
-- the buckets of all their points are in hand.
abbrev pub RefillGives : InHand → List ℕ → ℕ → RefillTurn → Type 0
RefillGives hold s v (Done f) =
    NoneIsNeededAround hold s v × IsRefilled s v f.gone.items f.fresh.items × AreHeld hold f.gone.items
    × AreHeld hold f.fresh.items
RefillGives hold s v Flat = NoneIsNeededAround hold s v × (is_solid (without_point v s) ≡ false)
RefillGives hold s v (Need b) = IsNeededAround hold s v b

-- the number that is asked for is one of n buckets
abbrev pub RefillAsksBelow : ℕ → RefillTurn → Type 0
RefillAsksBelow n (Done f) = Unit {0}
RefillAsksBelow n Flat = Unit {0}
RefillAsksBelow n (Need b) = b < n

-- no bucket is asked for
abbrev pub AsksNothing : RefillTurn → Type 0
AsksNothing (Done f) = Unit {0}
AsksNothing Flat = Unit {0}
AsksNothing (Need b) = ⊥
