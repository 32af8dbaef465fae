-- What an insertion changes is near the new point, and is found from the cells near by; over lists of cells.
use Rattle.std.specs.Prelude.{◌≡◌, ◌≢◌, ℕ, Bool, true, List, ◌∷◌, ◌⊎◌}
use Rattle.std.proofs.Common.{refl, sym, subst, inl, inr}
use Rattle.list_laws.proofs.Cited.{four_is}
use Rattle.point_order.specs.Sets.{IsIn}
use Rattle.point_order.specs.Facets.{facets_of, points_of}
use Rattle.point_order.specs.declared.cell.Cell.{Cell}
use Rattle.point_order.specs.declared.cell.Facet.{Facet}
use Rattle.point_order.specs.declared.cell.Facet.TheVariants.{Three, Two}
use Rattle.point_order.proofs.Cited.{in_ascending}
use Rattle.del_laws.specs.Cells.{Vertex, point, far}
use Rattle.hole_laws.proofs.Tests.{Insertion, IsAtGone, AreLinked}
use Rattle.hole_laws.specs.Lists.{cell_over, Goes, IsOverRim, IsAtGoing, AreJoined, HasHeld}
use Rattle.hole_laws.proofs.Vertex.{has_vertex, IsOrdered, ListsCells, IsFacetVertex}
use Rattle.hole_laws.proofs.FacetVertices.{IsAgainst, facet_against, against_of}
use Rattle.hole_laws.proofs.Listed.{region_listed, goes_test}
use Rattle.hole_laws.proofs.NewCells.{point_vertex, vertex_point, new_over_rim, without_new}

-- a facet has a point
pub facet_point : (q : Cell) → IsOrdered q → (f : Facet) → IsIn f (facets_of q) → (e : ℕ) × IsFacetVertex f (point e)
facet_point q o f m = pick k.t1 k.t2 k.four.wx (k.rest k.t1 a.0 k.four.wz) (k.rest k.t2 a.1 k.four.xz)
  where
    z : Vertex
    z = (against_of q o f m).z

    k : IsAgainst q z f
    k = (against_of q o f m).against

    a : (has_vertex q k.t1 ≡ true) × (has_vertex q k.t2 ≡ true) × (has_vertex q k.t3 ≡ true) × (has_vertex q z ≡ true)
    a = four_is (has_vertex q k.t1) (has_vertex q k.t2) (has_vertex q k.t3) (has_vertex q z) k.vertices

    pick : (x y : Vertex) → x ≢ y → IsFacetVertex f x → IsFacetVertex f y → (e : ℕ) × IsFacetVertex f (point e)
    pick (point e) y n i j = (e, i)
    pick far (point e) n i j = (e, j)
    pick far far n i j = absurd (n refl)

-- the points of a facet are points of its cell
pub facet_inside : (q : Cell) → IsOrdered q → (f : Facet) → IsIn f (facets_of q) → (e : ℕ) → IsFacetVertex f (point e) →
    IsIn e (points_of q)
facet_inside q o f m e i = vertex_point q e ((against_of q o f m).against.into (point e) i)

-- a point of the cell over a facet is the new one or of the facet
over_points : (f : Facet) (p e : ℕ) → IsIn e (points_of (cell_over f p)) → (p ≡ e) ⊎ IsFacetVertex f (point e)
over_points (Three t) p e m = in_ascending (p ∷ t) e m
over_points (Two t) p e m = in_ascending (p ∷ t) e m

module _ (c c' : Vertex → Vertex → Vertex → Vertex → Bool) (p : ℕ) (k : Insertion c c' (point p)) (l l' : List Cell)
    (t : ListsCells l c) (t' : ListsCells l' c') where
  -- A part of the cells that go, whose points are all held, and closed among the cells with a held point, is all of
  -- them.
  pub held_listed :
      (held : ℕ → Bool) (part : List Cell) → ((q : Cell) → IsIn q part → Goes l l' q) →
      ((q : Cell) (e : ℕ) → IsIn q part → IsIn e (points_of q) → held e ≡ true) →
      ((q r : Cell) (f : Facet) → IsIn q part → Goes l l' r → HasHeld held r → IsIn f (facets_of q) →
      IsIn f (facets_of r) → IsIn r part) →
      (a : Cell) → IsIn a part → (b : Cell) → Goes l l' b → IsIn b part
  held_listed held part goes all closed = region_listed c c' p k l l' t t' part goes (λ q r f m g i j.
      let e = facet_point q (t.ordered q (goes q m).before) f i in
      closed q r f m g record {
        e = e.0;
        has = facet_inside r (t.ordered r g.before) f j e.0 e.1;
        is_held = all q e.0 m (facet_inside q (t.ordered q (goes q m).before) f i e.0 e.1);
      } i j)

  -- each point of a new cell is the new one or a point of a cell that goes
  pub new_near : (q : Cell) → IsOverRim l l' p q → (e : ℕ) → IsIn e (points_of q) → (e ≡ p) ⊎ IsAtGoing l l' e
  new_near q r e i = elim (over_points r.f p e (subst (λ v. IsIn e (points_of v)) r.is i)) [
    | inl x ↦ inl (sym x)
    | inr x ↦ inr (record {
      q = r.rim.gone;
      goes = r.rim.goes;
      has = facet_inside r.rim.gone (t.ordered r.rim.gone r.rim.goes.before) r.f r.rim.of_gone e x;
    })
  ]

  -- a point of a cell that goes, as the tests see it
  pub at_gone : (e : ℕ) → IsAtGoing l l' e → IsAtGone c c' (point e)
  at_gone e g =
      let a = (facet_against g.q (t.ordered g.q g.goes.before) (point e) (point_vertex g.q e g.has)).against in
      record {
        t1 = a.t1;
        t2 = a.t2;
        t3 = a.t3;
        cell = goes_test c c' p k l l' t t' g.q g.goes a.t1 a.t2 a.t3
            (point e) a.four a.vertices;
        finite = λ x. (cc);
      }

  -- the points beside the new one are points of cells that go
  pub joined_going : (e : ℕ) → e ≢ p → AreJoined l' p e → IsAtGoing l l' e
  joined_going e n j =
      elim (new_near j.q (new_over_rim c c' p k l l' t t' j.q j.listed
      (λ m. without_new c c' p k l l' t t' j.q m (point_vertex j.q p j.has_p))) e j.has_e) [
        | inl x ↦ absurd (n x)
        | inr x ↦ x
      ]

-- two points of a cell, as the list has it
pub joined_of : (c : Vertex → Vertex → Vertex → Vertex → Bool) (l : List Cell) → ListsCells l c → (p e : ℕ) →
    AreLinked c (point p) (point e) → AreJoined l p e
joined_of c l t p e j =
    let r = t.found j.t1 j.t2 (point e) (point p) j.cell in
    let a = four_is (has_vertex r.q j.t1) (has_vertex r.q j.t2) (has_vertex r.q (point e)) (has_vertex r.q (point p))
    r.vertices in
    record { q = r.q; listed = r.listed; has_p = vertex_point r.q p a.3; has_e = vertex_point r.q e a.2 }
