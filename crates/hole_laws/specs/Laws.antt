-- The laws of insertion and removal, as the functions of the crate promise them. A set is an ascending list of keys.
use Rattle.std.specs.Prelude.{◌≡◌, ◌≢◌, ℕ, Bool, true, false, List, ◌⊎◌, ◌↔◌}
use Rattle.std.specs.List.Sorted.{IsStrictlySortedBy}
use Rattle.point_order.specs.CellOrder.{cell_cmp}
use Rattle.point_order.specs.Solid.{is_solid}
use Rattle.point_order.specs.Sets.{IsIn, with_point, without_point}
use Rattle.point_order.specs.Complex.{complex}
use Rattle.point_order.specs.Conflicts.{is_in_conflict, CanJudge}
use Rattle.point_order.specs.Facets.{facets_of, points_of}
use Rattle.point_order.specs.declared.cell.Cell.{Cell}
use Rattle.point_order.specs.declared.cell.Facet.{Facet}
use Rattle.hole_laws.specs.Lists.{cell_over, HasHeld, IsAtGoing, AreJoined}
use Rattle.hole_laws.specs.Edits.{IsSet, IsSolidSet, IsNew, IsMate, GoesFrom, StaysFrom, IsRimOf, IsFresh, ComesWithout}
use Rattle.hole_laws.specs.Edits.{IsLinkSet, IsPointAcross}

-- ---- conflict

-- a cell of s is one of s with p exactly where it is not in conflict with p, for any mate
abbrev pub StaysWithoutConflict : Type 0
StaysWithoutConflict =
    (s : List ℕ) (p : ℕ) → IsSolidSet s → IsNew s p →
    (q : Cell) (m : ℕ) → IsIn q (complex s) → IsMate s q m → (is_in_conflict q m p ≡ false) ↔ StaysFrom s p q

-- and goes where it is
abbrev pub GoesInConflict : Type 0
GoesInConflict =
    (s : List ℕ) (p : ℕ) → IsSolidSet s → IsNew s p →
    (q : Cell) (m : ℕ) → IsIn q (complex s) → IsMate s q m → (is_in_conflict q m p ≡ true) ↔ GoesFrom s p q

-- every cell has a mate
abbrev pub SomeMate : Type 0
SomeMate = (s : List ℕ) → IsSet s → (q : Cell) → IsIn q (complex s) → (m : ℕ) × IsMate s q m

-- and for each mate it can be judged
abbrev pub MatesJudge : Type 0
MatesJudge =
    (s : List ℕ) (p : ℕ) → IsSet s → IsNew s p →
    (q : Cell) (m : ℕ) → IsIn q (complex s) → IsMate s q m → CanJudge q m p

-- ---- insertion

-- some facet is a rim facet: so some cell goes, and some stays
abbrev pub SomeRim : Type 0
SomeRim = (s : List ℕ) (p : ℕ) → IsSolidSet s → IsNew s p → (f : Facet) × IsRimOf s p f

-- the complex of the set with p has the cells that stay, and the cells of p and a rim facet
abbrev pub CellsAfter : Type 0
CellsAfter =
    (s : List ℕ) (p : ℕ) → IsSolidSet s → IsNew s p →
    (q : Cell) → IsIn q (complex (with_point p s)) ↔ (StaysFrom s p q ⊎ IsFresh s p q)

-- the latter are its cells that have p
abbrev pub FreshHavePoint : Type 0
FreshHavePoint =
    (s : List ℕ) (p : ℕ) → IsSolidSet s → IsNew s p →
    (q : Cell) → IsIn q (complex (with_point p s)) → IsFresh s p q ↔ IsIn p (points_of q)

-- no cell of the set has it
abbrev pub OldLackPoint : Type 0
OldLackPoint =
    (s : List ℕ) (p : ℕ) → IsSolidSet s → IsNew s p → (q : Cell) → IsIn q (complex s) → ¬ (IsIn p (points_of q))

-- only one of the cells on a rim facet goes
abbrev pub OneGoneEach : Type 0
OneGoneEach =
    (s : List ℕ) (p : ℕ) → IsSolidSet s → IsNew s p →
    (f : Facet) → IsRimOf s p f → (q r : Cell) → GoesFrom s p q → GoesFrom s p r → IsIn f (facets_of q) →
    IsIn f (facets_of r) → q ≡ r

-- and each rim facet has a new cell of its own
abbrev pub OneFreshEach : Type 0
OneFreshEach =
    (s : List ℕ) (p : ℕ) → IsSolidSet s → IsNew s p →
    (f g : Facet) → IsRimOf s p f → IsRimOf s p g → cell_over f p ≡ cell_over g p → f ≡ g

-- ---- the region

-- a part of the cells that go, with each of them those that share a facet with it
pub record IsClosedPart (s : List ℕ) (p : ℕ) (part : List Cell) : Type 0 where
  pub goes : (q : Cell) → IsIn q part → GoesFrom s p q
  pub across : (q r : Cell) (f : Facet) → IsIn q part → GoesFrom s p r → IsIn f (facets_of q) → IsIn f (facets_of r) →
      IsIn r part

-- the region of the cells that go is connected across facets: a closed part that has one of them has them all
abbrev pub RegionConnected : Type 0
RegionConnected =
    (s : List ℕ) (p : ℕ) → IsSolidSet s → IsNew s p →
    (part : List Cell) → IsClosedPart s p part → (a : Cell) → IsIn a part → (b : Cell) → GoesFrom s p b → IsIn b part

-- a part of the cells that go, whose points are all held, with each of them those that share a facet with it
-- and have some point that is held
pub record IsHeldPart (s : List ℕ) (p : ℕ) (held : ℕ → Bool) (part : List Cell) : Type 0 where
  pub goes : (q : Cell) → IsIn q part → GoesFrom s p q
  pub all_held : (q : Cell) (e : ℕ) → IsIn q part → IsIn e (points_of q) → held e ≡ true
  pub across :
      (q r : Cell) (f : Facet) → IsIn q part → GoesFrom s p r → HasHeld held r →
      IsIn f (facets_of q) → IsIn f (facets_of r) → IsIn r part

-- so the region is found from what is held alone, where all its points are held
abbrev pub FoundFromHeld : Type 0
FoundFromHeld =
    (s : List ℕ) (p : ℕ) → IsSolidSet s → IsNew s p →
    (held : ℕ → Bool) (part : List Cell) → IsHeldPart s p held part → (a : Cell) → IsIn a part → (b : Cell) →
    GoesFrom s p b → IsIn b part

-- ---- locality

-- e is a point of a cell that p takes away
abbrev pub IsReached : List ℕ → ℕ → ℕ → Type 0
IsReached s p e = IsAtGoing (complex s) (complex (with_point p s)) e

-- each point of a new cell is the new one, or a point of a cell that goes
abbrev pub FreshAreNear : Type 0
FreshAreNear =
    (s : List ℕ) (p : ℕ) → IsSolidSet s → IsNew s p →
    (q : Cell) → IsFresh s p q → (e : ℕ) → IsIn e (points_of q) → (e ≡ p) ⊎ IsReached s p e

-- the points that are joined to the new one are those of the cells that go
abbrev pub JoinedAreReached : Type 0
JoinedAreReached =
    (s : List ℕ) (p : ℕ) → IsSolidSet s → IsNew s p →
    (e : ℕ) → e ≢ p → AreJoined (complex (with_point p s)) p e ↔ IsReached s p e

-- ---- lists

-- the list m is l without the cells of gone, and with those of fresh, in the order of cells
pub record IsExchanged (l gone fresh m : List Cell) : Type 0 where
  pub sorted : IsStrictlySortedBy cell_cmp m
  pub members : (q : Cell) → IsIn q m ↔ ((IsIn q l × ¬ (IsIn q gone)) ⊎ IsIn q fresh)

-- so the complex of the set with p is made from that of the set, the list of cells that go and the list of new ones
abbrev pub MadeByInsertion : Type 0
MadeByInsertion =
    (s : List ℕ) (p : ℕ) → IsSolidSet s → IsNew s p →
    (gone fresh m : List Cell) → ((q : Cell) → IsIn q gone ↔ GoesFrom s p q) →
    ((q : Cell) → IsIn q fresh ↔ IsFresh s p q) →
    IsExchanged (complex s) gone fresh m → m ≡ complex (with_point p s)

-- ---- removal

-- the complex of the rest has the cells that do not have v, and those that come
abbrev pub CellsOfRest : Type 0
CellsOfRest =
    (s : List ℕ) (v : ℕ) → IsSet s → IsIn v s → is_solid (without_point v s) ≡ true →
    (q : Cell) → IsIn q (complex (without_point v s))
    ↔ ((IsIn q (complex s) × ¬ (IsIn v (points_of q))) ⊎ ComesWithout s v q)

-- and it is made from that of the set, the list of the cells at v and the list of those that come
abbrev pub MadeByRemoval : Type 0
MadeByRemoval =
    (s : List ℕ) (v : ℕ) → IsSet s → IsIn v s → is_solid (without_point v s) ≡ true →
    (gone fresh m : List Cell) → ((q : Cell) → IsIn q gone ↔ (IsIn q (complex s) × IsIn v (points_of q))) →
    ((q : Cell) → IsIn q fresh ↔ ComesWithout s v q) →
    IsExchanged (complex s) gone fresh m → m ≡ complex (without_point v s)

-- The cells that come are those that v takes away from the complex of any solid set between its link and the rest.
abbrev pub RefilledFromLink : Type 0
RefilledFromLink =
    (s : List ℕ) (v : ℕ) (t : List ℕ) → IsSet s → IsIn v s → IsLinkSet s v t →
    (q : Cell) → ComesWithout s v q ↔ GoesFrom t v q

-- all their points are joined to v
abbrev pub ComingAreNear : Type 0
ComingAreNear =
    (s : List ℕ) (v : ℕ) → IsSet s → IsIn v s → is_solid (without_point v s) ≡ true →
    (q : Cell) → ComesWithout s v q → (e : ℕ) → IsIn e (points_of q) → AreJoined (complex s) v e

-- whether the rest is solid shows in the points joined to v and those across from it
abbrev pub SolidNear : Type 0
SolidNear =
    (s : List ℕ) (v : ℕ) (t : List ℕ) → IsSet s → IsIn v s → IsSet t → is_solid (without_point v s) ≡ true →
    ((e : ℕ) → e ≢ v → AreJoined (complex s) v e → IsIn e t) → ((e : ℕ) → IsPointAcross s v e → IsIn e t) →
    is_solid t ≡ true

-- a flat rest is joined to v as a whole
abbrev pub FlatRestJoined : Type 0
FlatRestJoined =
    (s : List ℕ) (v : ℕ) → IsSolidSet s → IsIn v s → is_solid (without_point v s) ≡ false →
    (e : ℕ) → IsIn e (without_point v s) → AreJoined (complex s) v e
