-- What the start and a step of a walk answer, for a hold of buckets.
use Rattle.std.specs.Prelude.{◌≡◌, ℕ, ◌+◌, ◌*◌, ◌%◌, ◌<◌, ◌⊎◌, true, List, [], None, Some, IsSome}
use Rattle.std.specs.declared.cmp.Ordering.TheVariants.{Less}
use Rattle.point_order.specs.declared.cell.Cell.{Cell}
use Rattle.point_order.specs.declared.cell.Facet.{Facet}
use Rattle.point_order.specs.Complex.{complex}
use Rattle.point_order.specs.CellOrder.{cell_cmp}
use Rattle.point_order.specs.Facets.{facets_of}
use Rattle.point_order.specs.Sets.{IsIn}
use Rattle.del_laws.specs.Walks.{is_before}
use Rattle.del_laws.specs.Nearness.{rank}
use Rattle.hole_laws.specs.Edits.{GoesFrom, StaysFrom}
use Rattle.bucket_grid.specs.Grids.{bucket_of}
use Rattle.cell_store.specs.Buckets.{InHand, bucket_at}
use Rattle.cell_store.specs.Shares.{NoneInHand, points_on}
use Rattle.hole_laws.specs.Others.{IsOtherOf}
use Rattle.cell_store.specs.Meshes.{all_cells}
use Rattle.cell_store.specs.Stars.{bucket_of_first}
use Rattle.cell_walk.specs.Searching.{IsInside}
use Rattle.cell_walk.specs.Paths.{Walking, nearer_held, facet_towards, IsWalkIn}
use Rattle.cell_walk.specs.declared.walk.Start.{Start}
use Rattle.cell_walk.specs.declared.walk.Start.TheVariants.{At, Need as Lacks}
use Rattle.cell_walk.specs.declared.walk.WalkTurn.{WalkTurn}
use Rattle.cell_walk.specs.declared.walk.WalkTurn.TheVariants.{Here, Moved, Need}

-- ---- the start

-- a Full cell of a bucket in hand, all of whose points lie in buckets in hand
pub record IsFullInside (hold : InHand) (c : Cell) : Type 0 where
  pub held : IsIn c (all_cells hold.places)
  pub inside : IsInside hold c

-- the least Full cell whose points all lie in buckets in hand
pub record IsLeastInside (hold : InHand) (c : Cell) : Type 0 where
  pub is : IsFullInside hold c
  pub least : (d : Cell) → IsFullInside hold d → ¬ (cell_cmp d c ≡ Less)

-- there is none, and this is the least cell of all buckets in hand
pub record IsLeastHeld (hold : InHand) (c : Cell) : Type 0 where
  pub none : (d : Cell) → ¬ (IsFullInside hold d)
  pub held : IsIn c (all_cells hold.places)
  pub least : (d : Cell) → IsIn d (all_cells hold.places) → ¬ (cell_cmp d c ≡ Less)

-- no bucket in hand has a cell
abbrev pub HasNoCell : InHand → Type 0
HasNoCell hold = all_cells hold.places ≡ []

-- the first bucket that is not in hand, from that of p on and round
pub record IsFirstMissing (hold : InHand) (p b : ℕ) : Type 0 where
  pub steps : ℕ
  pub below : steps < hold.grid * hold.grid * hold.grid
  pub number : b ≡ (bucket_of hold.grid p + steps) % (hold.grid * hold.grid * hold.grid)
  pub absent : bucket_at hold.places b ≡ None
  pub before :
      (i : ℕ) → i < steps →
      IsSome (bucket_at hold.places ((bucket_of hold.grid p + i) % (hold.grid * hold.grid * hold.grid)))

-- A walk to p from the least Full cell inside, else from the least cell; or, where no bucket in hand has a cell,
-- the first bucket that is not in hand.
abbrev pub StartGives : InHand → ℕ → Start → Type 0
StartGives hold p (At w) = (w.point ≡ p) × (IsLeastInside hold w.cell ⊎ IsLeastHeld hold w.cell)
StartGives hold p (Lacks b) = HasNoCell hold × IsFirstMissing hold p b

-- ---- a step

-- the cell stays, and this is the facet through which the walk goes on
pub record IsOnward (s : List ℕ) (w : Walking) (f : Facet) : Type 0 where
  pub stays : StaysFrom s w.point w.cell
  pub towards : facet_towards w.cell w.point ≡ Some f
  pub has : IsIn f (facets_of w.cell)

-- The walk went through such a facet to the other cell on it, which is one of a bucket in hand. It is nearer,
-- whichever buckets are in hand, and of the cells of those in hand fewer are nearer now.
pub record HasMoved (hold : InHand) (s : List ℕ) (old new : Walking) : Type 0 where
  pub facet : Facet
  pub onward : IsOnward s old facet
  pub other : IsOtherOf (complex s) old.cell facet new.cell
  pub walk : IsWalkIn hold s new
  pub point : new.point ≡ old.point
  pub nearer : is_before (rank s old.point new.cell) (rank s old.point old.cell) ≡ true
  pub fewer : nearer_held s old.point hold.places new.cell < nearer_held s old.point hold.places old.cell

-- the buckets of all points of such a facet are not in hand; b is that of the least
pub record IsStopped (hold : InHand) (s : List ℕ) (w : Walking) (b : ℕ) : Type 0 where
  pub facet : Facet
  pub onward : IsOnward s w facet
  pub absent : NoneInHand hold (points_on facet)
  pub number : b ≡ bucket_of_first hold.grid (points_on facet)

-- Here where the walk's cell goes; else Moved, or the bucket that the step across needs.
abbrev pub WalkGives : InHand → List ℕ → Walking → Walking → WalkTurn → Type 0
WalkGives hold s old new (Here c) = (new ≡ old) × (c ≡ old.cell) × GoesFrom s old.point c
WalkGives hold s old new Moved = HasMoved hold s old new
WalkGives hold s old new (Need b) = (new ≡ old) × IsStopped hold s old b
