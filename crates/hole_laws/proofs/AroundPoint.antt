-- The cells at a point are connected across the facets that have it.
use Rattle.std.specs.Prelude.{◌≡◌, ℕ, Bool, true, List, [], ◌∷◌}
use Rattle.std.proofs.Common.{refl, sym, ◌∙◌, subst}
use Rattle.list_laws.proofs.Cited.{four_is}
use Rattle.point_order.specs.Sets.{IsIn}
use Rattle.point_order.specs.Complex.{complex}
use Rattle.point_order.specs.Facets.{facets_of, points_of, points_on}
use Rattle.point_order.specs.declared.cell.Cell.{Cell}
use Rattle.point_order.specs.declared.cell.Facet.{Facet}
use Rattle.point_order.specs.declared.cell.Facet.TheVariants.{Three, Two}
use Rattle.del_laws.specs.Cells.{Vertex, point, far}
use Rattle.del_laws.specs.Base.{Symmetric3}
use Rattle.del_laws.specs.PointSets.{cell, has_as_point}
use Rattle.del_laws.proofs.Cited.{base}
use Rattle.hole_laws.specs.Edits.{IsSet}
use Rattle.hole_laws.specs.Stars.{IsCellAt, IsClosedStar, StarConnected}
use Rattle.hole_laws.proofs.Tests.{IsComplex}
use Rattle.hole_laws.proofs.Vertex.{has_vertex, is_listed, IsFacetVertex, ListsCells}
use Rattle.hole_laws.proofs.Order.{swap34}
use Rattle.hole_laws.proofs.CellVertices.{same_cell, vertices_symmetric}
use Rattle.hole_laws.proofs.FacetVertices.{facet_against, shared_facet}
use Rattle.hole_laws.proofs.Listed.{cell_of, four_of, listed_from, listed_symmetric, listed_true}
use Rattle.hole_laws.proofs.NewCells.{point_vertex, vertex_point}
use Rattle.hole_laws.proofs.FromBase.{complex_of}
use Rattle.hole_laws.proofs.OfSets.{set_of, lists_of}
use Rattle.hole_laws.proofs.Stars as stars

-- a point among the vertices of a facet is on it
facet_has : (f : Facet) (v : ℕ) → IsFacetVertex f (point v) → IsIn v (points_on f)
facet_has (Three t) v m = m
facet_has (Two t) v m = m

module _ (s : List ℕ) (i : IsSet s) (v : ℕ) (part : List Cell) (r : IsClosedStar s v part) where
  -- the cells of s, as a test of four vertices
  abbrev here : Vertex → Vertex → Vertex → Vertex → Bool
  here = cell (set_of s i)

  -- they are a complex
  k : IsComplex here
  k = complex_of (set_of s i)

  -- and are listed
  t : ListsCells (complex s) here
  t = lists_of s i

  -- the cells of the part, each by its vertices beside v
  abbrev test : Vertex → Vertex → Vertex → Bool
  test x y z = is_listed part x y z (point v)

  -- in any order
  symmetric : Symmetric3 test
  symmetric = record {
    first = λ x y z. (listed_symmetric part).first x y z (point v);
    last = λ x y z. (listed_symmetric part).middle x y z (point v);
  }

  -- from a cell of the part over a facet with v to the other cell on it
  step : (t1 t2 x y : Vertex) → here t1 t2 x (point v) ≡ true → test t1 t2 x ≡ true →
      here t1 t2 y (point v) ≡ true → test t1 t2 y ≡ true
  step t1 t2 x y hx qx hy =
      let q = listed_from part t1 t2 x (point v) qx in
      let o = t.found t1 t2 y (point v) hy in
      let mq = (r.at q.q q.listed).listed in
      let oq = t.ordered q.q mq in
      let oo = t.ordered o.q o.listed in
      let dx = four_of here k t1 t2 x (point v) hx in
      let dy = four_of here k t1 t2 y (point v) hy in
      let vq = four_is (has_vertex q.q t1) (has_vertex q.q t2) (has_vertex q.q x) (has_vertex q.q (point v))
      q.vertices in
      let vo = four_is (has_vertex o.q t1) (has_vertex o.q t2) (has_vertex o.q y) (has_vertex o.q (point v))
      o.vertices in
      let f = facet_against q.q oq x vq.2 in
      let g = facet_against o.q oo y vo.2 in
      let e = shared_facet q.q o.q oq oo t1 t2 (point v) x y (swap34 dx) (swap34 dy)
      ((vertices_symmetric q.q).last t1 t2 (point v) x ∙ q.vertices)
      ((vertices_symmetric o.q).last t1 t2 (point v) y ∙ o.vertices) f.f g.f f.against g.against in
      let on = f.against.rest (point v) vq.3 (λ d. dx.yz (sym d)) in
      listed_true part t1 t2 y (point v) o.q
      (r.across q.q o.q f.f q.listed (record { listed = o.listed; has = vertex_point o.q v vo.3 })
      (facet_has f.f v on) f.against.listed
      (subst (λ (h : Facet). IsIn h (facets_of o.q)) (sym e) g.against.listed)) o.vertices

  -- so they are all cells at v
  all_at : (a : Cell) → IsIn a part → (b : Cell) → IsCellAt s v b → IsIn b part
  all_at a ma b kb =
      let ha = r.at a ma in
      let va = (facet_against a (t.ordered a ha.listed) (point v) (point_vertex a v ha.has)).against in
      let vb = (facet_against b (t.ordered b kb.listed) (point v) (point_vertex b v kb.has)).against in
      let ca = cell_of here k (complex s) t a ha.listed va.t1 va.t2 va.t3 (point v) va.four va.vertices in
      let cb = cell_of here k (complex s) t b kb.listed vb.t1 vb.t2 vb.t3 (point v) vb.four vb.vertices in
      let finite : ¬ (point v ≡ far) = λ e. (cc) in
      let has = base.point (set_of s i) va.t1 va.t2 va.t3 (point v) ca finite in
      let all = stars.star_closed here k (point v) finite (base.star_full (set_of s i) (point v) has) test symmetric
      va.t1 va.t2 va.t3 ca (listed_true part va.t1 va.t2 va.t3 (point v) a ma va.vertices) step in
      let q = listed_from part vb.t1 vb.t2 vb.t3 (point v) (all vb.t1 vb.t2 vb.t3 cb) in
      subst (λ (c : Cell). IsIn c part) (same_cell q.q b (t.ordered q.q (r.at q.q q.listed).listed)
      (t.ordered b kb.listed) vb.t1 vb.t2 vb.t3 (point v) vb.four q.vertices vb.vertices) q.listed

-- the law
pub star_connected : StarConnected
star_connected s v i part r a m b k = all_at s i v part r a m b k
