-- The laws of walks to the nearest point.
use Rattle.std.specs.Prelude.{◌≡◌, ℕ, true, List, [], ◌∷◌}
use Rattle.list_laws.specs.Lists.{AreDistinct}
use Rattle.del_laws.specs.Nearest.{comes_before}
use Rattle.cell_store.specs.Buckets.{InHand}
use Rattle.cell_store.specs.Shares.{Shows}
use Rattle.near_vertex.specs.Around.{Nearing}
use Rattle.near_vertex.specs.Turns.{IsNearWalkIn, NearStartGives}
use Rattle.near_vertex.specs.declared.walk.NearStart.TheVariants.{At}

-- each point of the list comes before the one that stands before it, as on a walk
abbrev pub Approaches : ℕ → List ℕ → Type 0
Approaches q [] = Unit {0}
Approaches q (p ∷ []) = Unit {0}
Approaches q (p ∷ x ∷ l) = (comes_before q x p ≡ true) × Approaches q (x ∷ l)

-- a walk visits no point twice, also where buckets come to the hold between its steps
abbrev pub NoPointTwice : Type 0
NoPointTwice = (q : ℕ) (points : List ℕ) → Approaches q points → AreDistinct points

-- what starts is a walk over the points of the set
abbrev pub NearStartIsWalk : Type 0
NearStartIsWalk =
    (hold : InHand) (s : List ℕ) (q : ℕ) (w : Nearing) → Shows hold s → NearStartGives hold q (At w) → IsNearWalkIn s w
