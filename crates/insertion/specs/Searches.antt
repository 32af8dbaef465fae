-- The search for a first cell that a new point takes away, by turns, over a hold of buckets.
use Rattle.std.specs.Prelude.{◌≡◌, ℕ, ◌<◌, List, length, None, IsSome}
use Rattle.hole_laws.specs.Edits.{IsNew, GoesFrom}
use Rattle.cell_store.specs.Buckets.{InHand, bucket_at, cells_in}
use Rattle.cell_store.specs.Meshes.{AreAmong}
use Rattle.cell_store.specs.Shares.{Shows}
use Rattle.cell_conflict.specs.Searching.{NoneGoes}
use Rattle.cell_walk.specs.Paths.{IsWalkIn}
use Rattle.insertion.specs.declared.search.Search.{Search}
use Rattle.insertion.specs.declared.search.Search.TheVariants.{Near, On, InTurn}
use Rattle.insertion.specs.declared.search.SearchTurn.{SearchTurn}
use Rattle.insertion.specs.declared.search.SearchTurn.TheVariants.{Here, Need}

-- bucket b is one of the grid, and is not in hand
pub record IsLacking (hold : InHand) (b : ℕ) : Type 0 where
  pub below : b < length hold.places
  pub absent : bucket_at hold.places b ≡ None

-- the bucket is in hand, and p takes none of its cells away
abbrev pub IsPassed : InHand → List ℕ → ℕ → ℕ → Type 0
IsPassed hold s p b = IsSome (bucket_at hold.places b) × NoneGoes s p (cells_in hold.places b)

-- The search is one for a cell of the complex of s that p takes away: nothing is known yet of buckets with no point
-- near, the walk is one to p, and in turn all buckets below the number were passed.
abbrev pub IsSearchIn : InHand → List ℕ → ℕ → Search → Type 0
IsSearchIn hold s p (Near steps) = Unit {0}
IsSearchIn hold s p (On w) = (w.point ≡ p) × IsWalkIn hold s w
IsSearchIn hold s p (InTurn b) = (x : ℕ) → x < b → IsPassed hold s p x

-- it is one for every new point, whichever buckets are in hand
abbrev pub StartsSearch : Search → Type 0
StartsSearch search = (hold : InHand) (s : List ℕ) (p : ℕ) → IsSearchIn hold s p search

-- the hold shows a set for which p is new, and in which the search is one
abbrev pub ShowsSearch : InHand → ℕ → Search → Type 0
ShowsSearch hold p search = (s : List ℕ) × Shows hold s × IsNew s p × IsSearchIn hold s p search

-- a cell that p takes away, or a bucket that is lacking, with the search that goes on when it came
abbrev pub SearchGives : InHand → List ℕ → ℕ → SearchTurn → Type 0
SearchGives hold s p (Here c) = GoesFrom s p c
SearchGives hold s p (Need b next) = IsLacking hold b × IsSearchIn hold s p next

-- the answer is right for every set that the hold shows, for which p is new
abbrev pub SearchAnswers : InHand → ℕ → Search → SearchTurn → Type 0
SearchAnswers hold p search turn =
    (s : List ℕ) → Shows hold s → IsNew s p → IsSearchIn hold s p search → SearchGives hold s p turn

-- with more buckets in hand it is one
abbrev pub SearchStays : Type 0
SearchStays =
    (few many : InHand) (s : List ℕ) (p : ℕ) (search : Search) → AreAmong few many → IsSearchIn few s p search →
    IsSearchIn many s p search
