-- The laws of insertion, of specs/Laws.
use Rattle.std.specs.Prelude.{◌≡◌, ◌≢◌, ℕ, Bool, List, ◌⊎◌}
use Rattle.std.proofs.Common.{inl, inr, subst, sym}
use Rattle.point_order.specs.Sets.{IsIn, with_point}
use Rattle.point_order.specs.Complex.{complex}
use Rattle.point_order.specs.Facets.{points_of}
use Rattle.point_order.specs.declared.cell.Cell.{Cell}
use Rattle.point_order.specs.declared.cell.Facet.{Facet}
use Rattle.del_laws.specs.Cells.{Vertex, point}
use Rattle.del_laws.specs.PointSets.{cell}
use Rattle.hole_laws.proofs.Tests.{Insertion}
use Rattle.hole_laws.specs.Lists.{AreJoined}
use Rattle.hole_laws.proofs.Vertex.{ListsCells}
use Rattle.hole_laws.specs.Edits.{IsSolidSet, IsNew, GoesFrom, StaysFrom, IsRimOf, IsFresh}
use Rattle.hole_laws.specs.Laws.{SomeRim, CellsAfter, FreshHavePoint, OldLackPoint, IsClosedPart, RegionConnected}
use Rattle.hole_laws.specs.Laws.{IsHeldPart, FoundFromHeld, IsReached, FreshAreNear, JoinedAreReached}
use Rattle.hole_laws.proofs.Listed.{decide_listed, region_listed}
use Rattle.hole_laws.proofs.NewCells.{point_vertex, new_over_rim, over_rim_new, without_new, rim_listed, over_has_point}
use Rattle.hole_laws.proofs.Near.{held_listed, new_near, at_gone, joined_going, joined_of}
use Rattle.hole_laws.proofs.Locality.{at_linked}
use Rattle.hole_laws.proofs.OfSets.{set_of, lists_of, more_set, adds, solid_of, inserts}

module _ (s : List ℕ) (p : ℕ) (i : IsSolidSet s) (n : IsNew s p) where
  -- the cells of s, and those of s with p, as tests of four vertices
  abbrev before : Vertex → Vertex → Vertex → Vertex → Bool
  before = cell (set_of s i.set)

  -- and those of s with p
  abbrev after : Vertex → Vertex → Vertex → Vertex → Bool
  after = cell (set_of (with_point p s) (more_set s p i.set n.key))

  -- the insertion of p
  insert : Insertion before after (point p)
  insert = inserts s p i n

  -- and as lists
  old : ListsCells (complex s) before
  old = lists_of s i.set

  -- and after
  new : ListsCells (complex (with_point p s)) after
  new = lists_of (with_point p s) (more_set s p i.set n.key)

  -- a cell of s with p is one of s, or new
  cells_cases : (q : Cell) → IsIn q (complex (with_point p s)) → StaysFrom s p q ⊎ IsFresh s p q
  cells_cases q m = elim (decide_listed before insert.before (complex s) old q (new.ordered q m)) [
    | inl o ↦ inl (record { before = o; after = m })
    | inr o ↦ inr (new_over_rim before after p insert (complex s) (complex (with_point p s)) old new q m o)
  ]

  -- a cell over a rim facet is a cell of s with p
  fresh_listed : (q : Cell) → IsFresh s p q → IsIn q (complex (with_point p s))
  fresh_listed q r =
      subst (λ v. IsIn v (complex (with_point p s))) (sym r.is)
      (over_rim_new before after p insert (complex s) (complex (with_point p s)) old new r.f r.rim)

  -- a cell of s has not p
  lacks : (q : Cell) → IsIn q (complex s) → ¬ (IsIn p (points_of q))
  lacks q m h =
      without_new before after p insert (complex s) (complex (with_point p s)) old new q m (point_vertex q p h)

  -- a cell over a facet has p
  fresh_has : (q : Cell) → IsFresh s p q → IsIn p (points_of q)
  fresh_has q r = subst (λ v. IsIn p (points_of v)) (sym r.is) (over_has_point r.f p)

  -- and a cell of s with p that has p is new
  has_fresh : (q : Cell) → IsIn q (complex (with_point p s)) → IsIn p (points_of q) → IsFresh s p q
  has_fresh q m h =
      new_over_rim before after p insert (complex s) (complex (with_point p s)) old new q m (λ o. lacks q o h)

  -- a rim facet
  rim : (f : Facet) × IsRimOf s p f
  rim =
      rim_listed before after p insert (complex s) (complex (with_point p s)) old new insert.met.t1 insert.met.t2
      insert.met.t3 insert.met.rim

  -- a closed part is all
  connected : (part : List Cell) → IsClosedPart s p part → (a : Cell) → IsIn a part → (b : Cell) → GoesFrom s p b →
      IsIn b part
  connected part k a m b g =
      region_listed before after p insert (complex s) (complex (with_point p s)) old new part k.goes k.across a m b g

  -- a held part is all
  found : (held : ℕ → Bool) (part : List Cell) → IsHeldPart s p held part → (a : Cell) → IsIn a part → (b : Cell) →
      GoesFrom s p b → IsIn b part
  found held part k a m b g =
      held_listed before after p insert (complex s) (complex (with_point p s)) old new held part k.goes k.all_held
      k.across a m b g

  -- a new cell is near
  near : (q : Cell) → IsFresh s p q → (e : ℕ) → IsIn e (points_of q) → (e ≡ p) ⊎ IsReached s p e
  near q r e m = new_near before after p insert (complex s) (complex (with_point p s)) old new q r e m

  -- what is joined to p is reached
  joined : (e : ℕ) → e ≢ p → AreJoined (complex (with_point p s)) p e → IsReached s p e
  joined e d j = joined_going before after p insert (complex s) (complex (with_point p s)) old new e d j

  -- and back
  reached : (e : ℕ) → IsReached s p e → AreJoined (complex (with_point p s)) p e
  reached e r =
      joined_of after (complex (with_point p s)) new p e
      (at_linked (set_of s i.set) (set_of (with_point p s) (more_set s p i.set n.key)) (point p)
      (solid_of s i.set i.solid) (adds s p i.set n) (point e)
      (at_gone before after p insert (complex s) (complex (with_point p s)) old new e r))

-- ---- the laws

-- there is a rim facet
pub some_rim : SomeRim
some_rim s p i n = rim s p i n

-- the cells of the set with p
pub cells_after : CellsAfter
cells_after s p i n q = (cells_cases s p i n q, λ m. elim m [ inl k ↦ k.after | inr r ↦ fresh_listed s p i n q r ])

-- the new ones are those with p
pub fresh_have_point : FreshHavePoint
fresh_have_point s p i n q m = (fresh_has s p i n q, has_fresh s p i n q m)

-- no old one has p
pub old_lack_point : OldLackPoint
old_lack_point s p i n q m = lacks s p i n q m

-- the region is connected
pub region_connected : RegionConnected
region_connected s p i n part k a m b g = connected s p i n part k a m b g

-- and found from what is held
pub found_from_held : FoundFromHeld
found_from_held s p i n held part k a m b g = found s p i n held part k a m b g

-- new cells are near
pub fresh_are_near : FreshAreNear
fresh_are_near s p i n q r e m = near s p i n q r e m

-- what is joined to p is what is reached
pub joined_are_reached : JoinedAreReached
joined_are_reached s p i n e d = (joined s p i n e d, reached s p i n e)
