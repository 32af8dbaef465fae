-- Parts of a complex: some of its cells, in which points are put whatever the other cells are.
use Rattle.std.specs.Prelude.{◌≡◌, ℕ, List, [], ◌∷◌, ◌++◌, ◌⊎◌}
use Rattle.list_laws.specs.Lists.{AreDistinct}
use Rattle.point_order.specs.declared.cell.Cell.{Cell}
use Rattle.point_order.specs.Coordinates.{IsKey}
use Rattle.point_order.specs.Sets.{IsIn, with_point}
use Rattle.hole_laws.specs.Edits.{IsNew}
use Rattle.cell_slots.specs.Clouds.{AreCellsOf}
use Rattle.cell_slots.specs.Nets.{AreMoved}
use Rattle.cell_slots.specs.declared.reach.Reach.{Reach}
use Rattle.cell_slots.specs.declared.reach.Reach.TheVariants.{Whole}

-- the set with the points, one after another
abbrev pub with_points : List ℕ → List ℕ → List ℕ
with_points [] s = s
with_points (p ∷ points) s = with_points points (with_point p s)

-- the points are none of the set, and each stands once
pub record AreNew (s points : List ℕ) : Type 0 where
  pub each : (q : ℕ) → IsIn q points → IsNew s q
  pub once : AreDistinct points

-- The points make the cells old into the cells new: whatever others there are, where old and the others are the cells
-- of a set that has none of the points, new and the same others are those of the set with the points.
abbrev pub Grow : List ℕ → List Cell → List Cell → Type 0
Grow points old new =
    (others : List Cell) (s : List ℕ) → AreCellsOf s (old ++ others) → AreNew s points →
    AreCellsOf (with_points points s) (new ++ others)

-- all points but those left make the cells old into the cells new
pub record ArePut (points left : List ℕ) (old new : List Cell) : Type 0 where
  pub put : List ℕ
  pub moved : AreMoved points (put ++ left)
  pub grow : Grow put old new

-- the claim holds of each set of which these and some others are the cells, and which does not have the point
abbrev pub InEach : ℕ → List Cell → (List ℕ → Type 0) → Type 0
InEach p cells Claim = (others : List Cell) (s : List ℕ) → AreCellsOf s (cells ++ others) → IsNew s p → Claim s

-- the cells and some others are those of a set; where they are the whole, there are no others
pub record AreWithin (reach : Reach) (cells : List Cell) : Type 0 where
  pub others : List Cell
  pub set : List ℕ
  pub cells_of : AreCellsOf set (cells ++ others)
  pub alone : reach ≡ Whole → others ≡ []

-- and the point is none of the set
abbrev pub AreWithinNew : Reach → ℕ → List Cell → Type 0
AreWithinNew reach p cells = (within : AreWithin reach cells) × IsNew within.set p

-- and the points are
abbrev pub HaveRoomFor : Reach → List ℕ → List Cell → Type 0
HaveRoomFor reach points cells = (within : AreWithin reach cells) × AreNew within.set points

-- the claim holds of each set of which these and some others are the cells
abbrev pub InEachSet : List Cell → (List ℕ → Type 0) → Type 0
InEachSet cells Claim = (others : List Cell) (s : List ℕ) → AreCellsOf s (cells ++ others) → Claim s

-- and the point is one of the set
abbrev pub AreWithinAt : Reach → ℕ → List Cell → Type 0
AreWithinAt reach v cells = (within : AreWithin reach cells) × IsIn v within.set

-- the points but the four: all of them are keys, and none stands twice where the points stand once
pub record AreOthers (four points others : List ℕ) : Type 0 where
  pub all : (q : ℕ) → IsIn q points → IsIn q four ⊎ IsIn q others
  pub each : (q : ℕ) → IsIn q others → IsIn q points × (¬ (IsIn q four)) × IsKey q
  pub once : AreDistinct points → AreDistinct others
