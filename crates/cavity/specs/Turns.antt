-- What a turn of a dig answers, for a hold of buckets.
use Rattle.std.specs.Prelude.{◌≡◌, ℕ, ◌<◌, List, None}
use Rattle.point_order.specs.declared.cell.Cell.{Cell}
use Rattle.point_order.specs.Facets.{points_of}
use Rattle.point_order.specs.Sets.{IsIn}
use Rattle.hole_laws.specs.Edits.{GoesFrom}
use Rattle.bucket_grid.specs.Grids.{bucket_of}
use Rattle.cell_store.specs.Buckets.{InHand, bucket_at}
use Rattle.cell_store.specs.Shares.{Shows}
use Rattle.cell_store.specs.Ready.{AreHeld}
use Rattle.cavity.specs.declared.dig.DigTurn.{DigTurn}
use Rattle.cavity.specs.declared.dig.DigTurn.TheVariants.{Done, Need}
use Rattle.cavity.specs.Digs.{Digging, IsDigIn, IsDoneIn}

-- The hold shows a set in which the dig is one.
abbrev pub ShowsDig : InHand → Digging → Type 0
ShowsDig hold d = (s : List ℕ) × Shows hold s × IsDigIn s d

-- bucket b is not in hand, and has a finite point of a cell that p takes away
pub record IsNeeded (hold : InHand) (s : List ℕ) (p b : ℕ) : Type 0 where
  pub absent : bucket_at hold.places b ≡ None
  pub cell : Cell
  pub goes : GoesFrom s p cell
  pub point : ℕ
  pub has : IsIn point (points_of cell)
  pub number : b ≡ bucket_of hold.grid point

-- there is no such bucket
abbrev pub NoneIsNeeded : InHand → List ℕ → ℕ → Type 0
NoneIsNeeded hold s p = (b : ℕ) → IsNeeded hold s p b → ⊥

-- Done where no bucket is needed, and then the dig is done, and the buckets of all points of its cells
-- are in hand; else a bucket that is needed.
abbrev pub TurnGives : InHand → List ℕ → Digging → DigTurn → Type 0
TurnGives hold s d Done = NoneIsNeeded hold s d.point × IsDoneIn s d × AreHeld hold d.found
TurnGives hold s d (Need b) = IsNeeded hold s d.point b

-- the number that is asked for is one of n buckets
abbrev pub AsksBelow : ℕ → DigTurn → Type 0
AsksBelow n Done = Unit {0}
AsksBelow n (Need b) = b < n
