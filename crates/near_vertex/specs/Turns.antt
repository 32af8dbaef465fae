-- What the start and a step of a walk to the nearest point answer, for a hold of buckets.
use Rattle.std.specs.Prelude.{◌≡◌, ℕ, ◌<◌, true, List, [], ◌∷◌, Option, None, Some, IsSome}
use Rattle.point_order.specs.Sets.{IsIn}
use Rattle.del_laws.specs.Nearest.{comes_before}
use Rattle.cell_store.specs.Buckets.{BucketContent, InHand, bucket_at, points_at}
use Rattle.bucket_grid.specs.Grids.{bucket_of}
use Rattle.cell_store.specs.Shares.{Shows}
use Rattle.cell_walk.specs.Turns.{IsFirstMissing}
use Rattle.nearest_points.specs.Points.{IsNearest}
use Rattle.near_vertex.specs.Around.{Nearing, IsFirstAround}
use Rattle.near_vertex.specs.declared.walk.NearStart.{NearStart}
use Rattle.near_vertex.specs.declared.walk.NearStart.TheVariants.{At, Need as Lacks}
use Rattle.near_vertex.specs.declared.walk.NearTurn.{NearTurn}
use Rattle.near_vertex.specs.declared.walk.NearTurn.TheVariants.{Here, Moved, Need}

-- ---- the start

-- no bucket in hand has a point
abbrev pub HasNoPoint : InHand → Type 0
HasNoPoint hold = (b : ℕ) → points_at hold.places b ≡ []

-- the first of a list, if there is one
abbrev pub front_of : List ℕ → Option ℕ
front_of [] = None
front_of (p ∷ l) = Some p

-- the least point of a bucket, if it is in hand and has one
abbrev pub LeastIs : InHand → ℕ → Option ℕ → Type 0
LeastIs hold b o = o ≡ front_of (points_at hold.places b)

-- the least point of the lowest bucket in hand that has one
pub record IsLeastOfLowest (hold : InHand) (p : ℕ) : Type 0 where
  pub bucket : ℕ
  pub least : front_of (points_at hold.places bucket) ≡ Some p
  pub lower : (b : ℕ) → b < bucket → points_at hold.places b ≡ []

-- A walk to q from that point; or, where no bucket in hand has a point, the first bucket that is not in hand.
abbrev pub NearStartGives : InHand → ℕ → NearStart → Type 0
NearStartGives hold q (At w) = (w.place ≡ q) × IsLeastOfLowest hold w.point
NearStartGives hold q (Lacks b) = HasNoPoint hold × IsFirstMissing hold q b

-- ---- a step

-- a walk stands at a point of the set
abbrev pub IsNearWalkIn : List ℕ → Nearing → Type 0
IsNearWalkIn s w = IsIn w.point s

-- the hold shows a set in which the walk is one
abbrev pub ShowsNearWalk : InHand → Nearing → Type 0
ShowsNearWalk hold w = (s : List ℕ) × Shows hold s × IsNearWalkIn s w

-- the bucket of the point where the walk stands, if it is in hand
abbrev pub bucket_under : InHand → Nearing → Option BucketContent
bucket_under hold w = bucket_at hold.places (bucket_of hold.grid w.point)

-- the walk went to the first of the points that share a cell with its point, which comes before it
pub record HasStepped (hold : InHand) (s : List ℕ) (old new : Nearing) : Type 0 where
  pub held : IsSome (bucket_under hold old)
  pub place : new.place ≡ old.place
  pub first : IsFirstAround s old.place old.point new.point
  pub before : comes_before old.place new.point old.point ≡ true
  pub walk : IsNearWalkIn s new

-- Here where no point that shares a cell with the walk's comes before it, and so no point of the set does; else
-- Moved, or the bucket of the walk's point, which is not in hand.
abbrev pub NearTurnGives : InHand → List ℕ → Nearing → Nearing → NearTurn → Type 0
NearTurnGives hold s old new (Here p) =
    (new ≡ old) × (p ≡ old.point) × IsSome (bucket_under hold old) × IsNearest s old.place p
NearTurnGives hold s old new Moved = HasStepped hold s old new
NearTurnGives hold s old new (Need b) =
    (new ≡ old) × (b ≡ bucket_of hold.grid old.point) × (bucket_under hold old ≡ None)
