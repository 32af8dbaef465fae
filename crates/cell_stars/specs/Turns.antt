-- Plans that are carried out and turned back: a plan has then what stood before.
use Rattle.std.specs.Prelude.{◌≡◌, ℕ, true, List, [], ◌∷◌, length, Option, None, Some, slice_index_or, slice_set}
use Rattle.point_order.specs.Sets.{IsIn}
use Rattle.point_order.specs.declared.cell.Cell.{Cell}
use Rattle.cell_stars.specs.Places.{Placed, AreStars, cells_of, swapped_at, touches_in}
use Rattle.cell_stars.specs.Plans.{PlanView, Allows, AreBelow, MakesExchange, or_else, set_all, after_plan}

-- what stands at the places of the changes before each of them, in turn
abbrev pub stood : {X : Type 0} → List (ℕ × X) → List X → List (ℕ × X)
stood [] l = []
stood (s ∷ ss) l = (s.0, slice_index_or l s.0 s.1) ∷ stood ss (slice_set l s.0 s.1)

-- the list that the longer one takes the place of, where there is one
abbrev pub replaced : {X : Type 0} → Option X → X → Option X
replaced None x = None
replaced (Some y) x = Some x

-- what the plan has after it was carried out in the bucket: what stood there
abbrev pub left : PlanView → Placed → PlanView
left p b = record {
  grown = replaced p.grown b.slots;
  slots = stood p.slots (or_else p.grown b.slots);
  more = replaced p.more b.stars;
  stars = stood p.stars (or_else p.more b.stars);
  parts = replaced p.parts b.keys;
  keys = stood p.keys (or_else p.parts b.keys);
}

-- A list l, or a longer one in its place, with changes cs becomes m, and what stood there is kept.
pub record IsPart {X : Type 0} (o : Option (List X)) (cs : List (ℕ × X)) (l : List X) (r : Option (List X))
    (ds : List (ℕ × X)) (m : List X) : Type 0 where
  pub below : AreBelow (length (or_else o l)) cs
  pub grown : r ≡ replaced o l
  pub changes : ds ≡ stood cs (or_else o l)
  pub list : m ≡ set_all cs (or_else o l)

-- it did
pub record WasPart {X : Type 0} (r : Option (List X)) (ds : List (ℕ × X)) (m : List X) : Type 0 where
  pub longer : Option (List X)
  pub before : List (ℕ × X)
  pub was : List X
  pub part : IsPart longer before was r ds m

-- The plan p, carried out in the bucket b, makes c of it, and has then what q has.
pub record IsTurn (p : PlanView) (b : Placed) (q : PlanView) (c : Placed) : Type 0 where
  pub before : AreStars b
  pub allows : Allows p b
  pub plan : q ≡ left p b
  pub bucket : c ≡ after_plan p b

-- The plan q was carried out, and made c of the bucket.
pub record WasTurned (q : PlanView) (c : Placed) : Type 0 where
  pub plan : PlanView
  pub bucket : Placed
  pub turn : IsTurn plan bucket q c

-- That can come of one plan and one bucket only.
abbrev pub TurnIsOne : Type 0
TurnIsOne =
    (p q r : PlanView) (b c d : Placed) → IsTurn p b r d → IsTurn q c r d → (p ≡ q) × (b ≡ c)

-- The cells of a list are those that an exchange finds in a bucket: all gone ones that touch it, and no fresh one.
pub record AreReady (place : Option (ℕ × ℕ)) (gone fresh l : List Cell) : Type 0 where
  pub there : (c : Cell) → IsIn c gone → touches_in place c ≡ true → IsIn c l
  pub absent : (c : Cell) → IsIn c fresh → touches_in place c ≡ true → IsIn c l → ⊥

-- The plan was carried out, and turned back it makes the exchange of the gone for the fresh cells in the bucket.
pub record IsWayBack (gone fresh : List Cell) (c : Placed) (q : PlanView) : Type 0 where
  pub plan : PlanView
  pub bucket : Placed
  pub turn : IsTurn plan bucket q c
  pub there : MakesExchange fresh gone bucket plan
  pub cells : cells_of bucket.slots ≡ swapped_at c.place gone fresh (cells_of c.slots)

-- After an exchange that found its cells so, the plan leads back.
abbrev pub TurnLeadsBack : Type 0
TurnLeadsBack =
    (gone fresh : List Cell) (p q : PlanView) (b c : Placed) → MakesExchange gone fresh b p → IsTurn p b q c →
    AreReady b.place gone fresh (cells_of b.slots) → IsWayBack fresh gone c q
