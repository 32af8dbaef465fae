-- Solid sets of points as ascending lists of keys, and a point that comes to one.
use Rattle.std.specs.Prelude.{◌≡◌, ◌≢◌, ℕ, true, false, List, [], ◌∷◌}
use Rattle.point_order.specs.Coordinates.{IsKey}
use Rattle.point_order.specs.Sets.{IsIn, IsAscending, with_point, without_point}
use Rattle.point_order.specs.Orientation.{is_flat}
use Rattle.point_order.specs.Solid.{is_solid}
use Rattle.point_order.specs.Complex.{complex}
use Rattle.point_order.specs.Facets.{facets_of, points_of}
use Rattle.point_order.specs.declared.cell.Cell.{Cell}
use Rattle.point_order.specs.declared.cell.Cell.TheVariants.{Full, Open}
use Rattle.point_order.specs.declared.cell.Facet.{Facet}
use Rattle.del_laws.specs.Keys.{AreKeys}
use Rattle.hole_laws.specs.Lists.{Goes, Stays, IsRimFacet, IsOverRim, AreJoined}

-- a set of points: each once, in ascending order
pub record IsSet (s : List ℕ) : Type 0 where
  pub ascending : IsAscending s
  pub keys : AreKeys s

-- four of them are independent
pub record IsSolidSet (s : List ℕ) : Type 0 where
  pub set : IsSet s
  pub solid : is_solid s ≡ true

-- a point that is none of the set
pub record IsNew (s : List ℕ) (p : ℕ) : Type 0 where
  pub key : IsKey p
  pub absent : ¬ (IsIn p s)

-- a cell of s that p takes away
abbrev pub GoesFrom : List ℕ → ℕ → Cell → Type 0
GoesFrom s p q = Goes (complex s) (complex (with_point p s)) q

-- a cell of s that is one of s with p too
abbrev pub StaysFrom : List ℕ → ℕ → Cell → Type 0
StaysFrom s p q = Stays (complex s) (complex (with_point p s)) q

-- a facet with a cell of s that p takes away on one side, and one that stays on the other
abbrev pub IsRimOf : List ℕ → ℕ → Facet → Type 0
IsRimOf s p f = IsRimFacet (complex s) (complex (with_point p s)) f

-- the cell of p and a rim facet
abbrev pub IsFresh : List ℕ → ℕ → Cell → Type 0
IsFresh s p q = IsOverRim (complex s) (complex (with_point p s)) p q

-- m is a mate of the cell: of an Open cell, a point of s off its plane. Of a Full cell the mate is not looked at.
abbrev pub IsMate : List ℕ → Cell → ℕ → Type 0
IsMate s (Full q) m = Unit {0}
IsMate s (Open (a ∷ b ∷ c ∷ [])) m = IsIn m s × (is_flat a b c m ≡ false)
IsMate s (Open t) m = ⊥

-- ---- removal

-- a cell that comes when v is taken: one of the rest that is none of s
abbrev pub ComesWithout : List ℕ → ℕ → Cell → Type 0
ComesWithout s v q = Goes (complex (without_point v s)) (complex s) q

-- t is solid, it has the points that are joined to v in s, and no others than those of the rest
pub record IsLinkSet (s : List ℕ) (v : ℕ) (t : List ℕ) : Type 0 where
  pub solid : IsSolidSet t
  pub inside : (e : ℕ) → IsIn e t → IsIn e (without_point v s)
  pub link : (e : ℕ) → e ≢ v → AreJoined (complex s) v e → IsIn e t

-- e is a point of the cell across a facet of a cell at v, against v
pub record IsPointAcross (s : List ℕ) (v e : ℕ) : Type 0 where
  pub f : Facet
  pub here : Cell
  pub here_listed : IsIn here (complex s)
  pub here_has : IsIn v (points_of here)
  pub of_here : IsIn f (facets_of here)
  pub there : Cell
  pub there_listed : IsIn there (complex s)
  pub there_lacks : ¬ (IsIn v (points_of there))
  pub of_there : IsIn f (facets_of there)
  pub has : IsIn e (points_of there)
