-- Exchanges that are planned, and then carried out without memory.
use Rattle.std.specs.Prelude.{◌≡◌, ◌<◌, ◌↔◌, ◌⊎◌, ℕ, Bool, true, List, [], ◌∷◌, length, Option, None, Some, slice_set}
use Rattle.point_order.specs.declared.cell.Cell.{Cell}
use Rattle.point_order.specs.Facets.{points_of}
use Rattle.point_order.specs.Sets.{IsIn}
use Rattle.cell_stars.specs.Places.{Placed, AreFiled, AreStars, IsMoved, IsStarred, cells_of, lies_in, part_of}
use Rattle.cell_stars.specs.Places.{touches_in, swapped_at, at_slot}
use Rattle.cell_stars.specs.Swaps.{Differ}
use Rattle.cell_stars.specs.Homes.{AreHomes}

-- A plan: the places and the stars in longer lists, where there are too few; for each place that changes what stands
-- there after, for each star that changes the star after it; and the same for the keys, with a longer list of parts.
pub record PlanView : Type 0 where
  pub grown : Option (List (Option Cell))
  pub slots : List (ℕ × Option Cell)
  pub more : Option (List (ℕ × List ℕ))
  pub stars : List (ℕ × (ℕ × List ℕ))
  pub parts : Option (List (List (ℕ × ℕ)))
  pub keys : List (ℕ × List (ℕ × ℕ))

-- the longer list, where there is one
abbrev pub or_else : {X : Type 0} → Option X → X → X
or_else None x = x
or_else (Some y) x = y

-- the list with other elements at some places
abbrev pub set_all : {X : Type 0} → List (ℕ × X) → List X → List X
set_all [] l = l
set_all (s ∷ ss) l = set_all ss (slice_set l s.0 s.1)

-- the numbers of the changes are below n
abbrev pub AreBelow : {X : Type 0} → ℕ → List (ℕ × X) → Type 0
AreBelow n [] = Unit {0}
AreBelow n (s ∷ ss) = (s.0 < n) × AreBelow n ss

-- the bucket after a plan
abbrev pub after_plan : PlanView → Placed → Placed
after_plan p b = record b {
  slots = set_all p.slots (or_else p.grown b.slots);
  stars = set_all p.stars (or_else p.more b.stars);
  keys = set_all p.keys (or_else p.parts b.keys);
}

-- the plan can be carried out in the bucket
pub record Allows (p : PlanView) (b : Placed) : Type 0 where
  pub slots : AreBelow (length (or_else p.grown b.slots)) p.slots
  pub stars : AreBelow (length (or_else p.more b.stars)) p.stars
  pub keys : AreBelow (length (or_else p.parts b.keys)) p.keys
  pub after : AreStars (after_plan p b)

-- the plan makes the exchange in the bucket
pub record MakesExchange (gone fresh : List Cell) (b : Placed) (p : PlanView) : Type 0 where
  pub allows : Allows p b
  pub cells : cells_of (after_plan p b).slots ≡ swapped_at b.place gone fresh (cells_of b.slots)

-- the points of a list are the vertices of the cells of an exchange
pub record AreVertices (gone fresh : List Cell) (vertices : List ℕ) : Type 0 where
  pub each : (p : ℕ) → IsIn p vertices → (c : Cell) × (IsIn c gone ⊎ IsIn c fresh) × IsIn p (points_of c)
  pub all : (p : ℕ) (c : Cell) → IsIn c gone ⊎ IsIn c fresh → IsIn p (points_of c) → IsIn p vertices

-- What is found once for an exchange: its vertices, whether it is known that no fresh cell is listed twice, and the
-- buckets of the vertices of each cell in a grid.
pub record Once : Type 0 where
  pub vertices : List ℕ
  pub single : Bool
  pub gone : ℕ × List (List ℕ)
  pub fresh : ℕ × List (List ℕ)

-- it is of these cells
pub record IsOnceFor (gone fresh : List Cell) (m : Once) : Type 0 where
  pub vertices : AreVertices gone fresh m.vertices
  pub single : m.single ≡ true → Differ fresh
  pub gone_homes : AreHomes m.gone gone
  pub fresh_homes : AreHomes m.fresh fresh

-- ---- what the planner finds

-- some cell of the list is put at the place, and has the point, which lies in the bucket
pub record IsPutAt (place : Option (ℕ × ℕ)) (placed : List (ℕ × Cell)) (p i : ℕ) : Type 0 where
  pub cell : Cell
  pub put : IsIn (i, cell) placed
  pub has : IsIn p (points_of cell)
  pub inside : lies_in place p ≡ true

-- The freed places are those of the gone cells that touch the bucket. The cells put are the fresh ones that touch it
-- and do not stay there, each at one place of its own, which is freed or has no cell.
pub record AreFor (gone fresh : List Cell) (freed : List ℕ) (placed : List (ℕ × Cell)) (old : Placed) : Type 0 where
  pub there : (i : ℕ) → IsIn i freed → (c : Cell) × (at_slot old.slots i ≡ Some c)
  pub freed_gone : (i : ℕ) (c : Cell) → IsIn i freed → at_slot old.slots i ≡ Some c →
      IsIn c gone × (touches_in old.place c ≡ true)
  pub gone_freed : (i : ℕ) (c : Cell) → at_slot old.slots i ≡ Some c → IsIn c gone → touches_in old.place c ≡ true →
      IsIn i freed
  pub placed_fresh : (i : ℕ) (c : Cell) → IsIn (i, c) placed → IsIn c fresh × (touches_in old.place c ≡ true)
  pub fresh_placed : (c : Cell) → IsIn c fresh → touches_in old.place c ≡ true →
      ((i : ℕ) × IsIn (i, c) placed) ⊎ ((i : ℕ) × (at_slot old.slots i ≡ Some c) × (IsIn i freed → ⊥))
  pub new : (i j : ℕ) (c : Cell) → IsIn (i, c) placed → at_slot old.slots j ≡ Some c → IsIn j freed
  pub vacant : (i : ℕ) (c d : Cell) → IsIn (i, c) placed → at_slot old.slots i ≡ Some d → IsIn i freed
  pub apart : (i : ℕ) (c d : Cell) → IsIn (i, c) placed → IsIn (i, d) placed → c ≡ d
  pub single : (i j : ℕ) (c : Cell) → IsIn (i, c) placed → IsIn (j, c) placed → i ≡ j

-- What stands at a place after is what was put there, or else what stood there, where the place was not freed.
pub record ArePutInto (freed : List ℕ) (placed : List (ℕ × Cell)) (old new : List (Option Cell)) : Type 0 where
  pub put : (i : ℕ) (c : Cell) → IsIn (i, c) placed → at_slot new i ≡ Some c
  pub kept : (i : ℕ) (c : Cell) → at_slot old i ≡ Some c → (IsIn i freed → ⊥) → at_slot new i ≡ Some c
  pub only : (i : ℕ) (c : Cell) → at_slot new i ≡ Some c →
      IsIn (i, c) placed ⊎ ((at_slot old i ≡ Some c) × (IsIn i freed → ⊥))

-- A star has after what it had but for freed places, and the places of the cells put that have its vertex.
abbrev pub StarsAfter : List ℕ → List (ℕ × Cell) → Placed → ℕ → ℕ → Type 0
StarsAfter freed placed old p i = (IsStarred old.keys old.stars p i × (IsIn i freed → ⊥)) ⊎ IsPutAt old.place placed p i

-- all stars do, and none is empty
pub record AreRewritten (freed : List ℕ) (placed : List (ℕ × Cell)) (old : Placed) (keys : List (List (ℕ × ℕ)))
    (stars : List (ℕ × List ℕ)) : Type 0 where
  pub order : AreFiled keys
  pub starred : (p i : ℕ) → IsStarred keys stars p i ↔ StarsAfter freed placed old p i
  pub filled : (k : ℕ × ℕ) → IsIn k (part_of keys k.0) → (i : ℕ) × IsStarred keys stars k.0 i

-- Then the stars are those of the cells, and the exchange is made.
abbrev pub RewrittenIsMoved : Type 0
RewrittenIsMoved =
    (gone fresh : List Cell) (freed : List ℕ) (placed : List (ℕ × Cell)) (old new : Placed) → new.place ≡ old.place →
    AreStars old → AreFor gone fresh freed placed old → ArePutInto freed placed old.slots new.slots →
    AreRewritten freed placed old new.keys new.stars →
    AreStars new × IsMoved gone fresh old new
