-- One insertion, from the few facts of geometry.
use Rattle.std.specs.Prelude.{◌≡◌, Bool, true, false, ◌≢◌, ◌⊎◌}
use Rattle.std.proofs.Common.{refl, sym, ap, ◌∙◌, inl, inr}
use Rattle.std.proofs.lemmas.Bool.{false≢true}
use Rattle.list_laws.proofs.Cited.{and_not, and_not_from, false_if, search_pair}
use Rattle.del_laws.specs.Cells.{Vertex, far}
use Rattle.del_laws.specs.Base.{Symmetric, Across, Corner, Within, IsVertexOf}
use Rattle.hole_laws.proofs.Tests.{IsComplex, Insertion, HasRim, AreLinked, gone}
use Rattle.del_laws.specs.PointSets.{PointSet, solid, cell, vertices, has_as_point}
use Rattle.hole_laws.proofs.Tests.{IsAdd}
use Rattle.del_laws.proofs.Cited.{base, test_symmetric}
use Rattle.hole_laws.proofs.Vertices.{cases_vertex, first_last, second_last}
use Rattle.hole_laws.proofs.Rims.{last_apart, rim_makes_new, without_symmetric}
use Rattle.hole_laws.proofs.Stars as stars

-- the complex of a set
pub complex_of : (S : PointSet) → IsComplex (cell S)
complex_of S = record { vertices = vertices S; laws = base.complex S }

-- the set is within the set with p
pub larger : (S T : PointSet) (p : Vertex) → IsAdd S p T → Within PointSet has_as_point S T
larger S T p a q h = a.same q (λ e. false≢true (sym a.absent ∙ ap (has_as_point S) (sym e) ∙ h)) ∙ h

-- the last vertex of a cell of T that is not p
keeps : (S T : PointSet) (p : Vertex) → IsAdd S p T → (w x y z : Vertex) → cell T w x y z ≡ true → z ≢ p →
    IsVertexOf PointSet has_as_point S z
keeps S T p a w x y z h n = go (cases_vertex z far)
  where
    go : (z ≡ far) ⊎ (z ≡ far → ⊥) → IsVertexOf PointSet has_as_point S z
    go (inl e) = inl e
    go (inr m) = inr (sym (a.same z n) ∙ base.point T w x y z h m)

-- a cell without p is one of the set
pub old : (S T : PointSet) (p : Vertex) → solid S ≡ true → IsAdd S p T → (w x y z : Vertex) → cell T w x y z ≡ true →
    w ≢ p → x ≢ p → y ≢ p → z ≢ p → cell S w x y z ≡ true
old S T p s a w x y z h i j k l = base.smaller T S s (larger S T p a) w x y z h
    (keeps S T p a x y z w (sym (first_last (cell T) (test_symmetric T) w x y z) ∙ h) i)
    (keeps S T p a w y z x (sym (second_last (cell T) (test_symmetric T) w x y z) ∙ h) j)
    (keeps S T p a w x z y (sym ((test_symmetric T).last w x y z) ∙ h) k)
    (keeps S T p a w x y z h l)

-- with a point a solid set is solid
pub solid_add : (S T : PointSet) (p : Vertex) → solid S ≡ true → IsAdd S p T → solid T ≡ true
solid_add S T p s a = base.solid_more S T s (larger S T p a)

-- a cell of R with p and of R with q is one of R with both
pub meet : (R A B T : PointSet) (p q : Vertex) → solid R ≡ true → IsAdd R p A → IsAdd R q B → IsAdd A q T →
    (w x y z : Vertex) → cell A w x y z ≡ true → cell B w x y z ≡ true → cell T w x y z ≡ true
meet R A B T p q s ra rb at =
    base.union R A B T s (larger R A p ra) (larger R B q rb) (larger A T q at) λ v h. go v h (cases_vertex v q)
  where
    go : (v : Vertex) → has_as_point T v ≡ true → (v ≡ q) ⊎ (v ≡ q → ⊥) →
        (has_as_point A v ≡ true) ⊎ (has_as_point B v ≡ true)
    go v h (inl e) = inr (ap (has_as_point B) e ∙ rb.present)
    go v h (inr n) = inl (sym (at.same v n) ∙ h)

-- no cell of the set has p
absent : (S T : PointSet) (p : Vertex) → IsAdd S p T → (w x y : Vertex) → cell S w x y p ≡ false
absent S T p a w x y = false_if _ λ h. false≢true (sym a.absent ∙ base.point S w x y p h a.finite)

-- on a facet of a Full cell at p, against p, a cell goes and one stays
pub rim : (S T : PointSet) (p : Vertex) → solid S ≡ true → IsAdd S p T → HasRim (cell S) (cell T)
rim S T p s a = record {
  t1 = k.t1;
  t2 = k.t2;
  t3 = k.t3;
  rim = record {
    kept = f.beyond;
    lost = b.beyond;
    kept_before = kept_before;
    kept_after = f.cell;
    lost_before = b.cell;
    lost_after = false_if _ (λ h. goes (f.only b.beyond h));
  };
}
  where
    k : Corner (cell T) p
    k = base.corner T p (solid_add S T p s a) a.present

    n : (p ≢ k.t3) × (p ≢ k.t2) × (p ≢ k.t1)
    n = last_apart (cell T) (complex_of T) k.t1 k.t2 k.t3 p k.cell

    f : Across (cell T) k.t1 k.t2 k.t3 p
    f = (complex_of T).laws.across k.t1 k.t2 k.t3 p k.cell

    kept_before : cell S k.t1 k.t2 k.t3 f.beyond ≡ true
    kept_before =
        old S T p s a k.t1 k.t2 k.t3 f.beyond f.cell (λ e. n.2 (sym e)) (λ e. n.1 (sym e)) (λ e. n.0 (sym e)) f.other

    b : Across (cell S) k.t1 k.t2 k.t3 f.beyond
    b = (complex_of S).laws.across k.t1 k.t2 k.t3 f.beyond kept_before

    goes : (b.beyond ≡ p) ⊎ (b.beyond ≡ f.beyond) → ⊥
    goes (inl e) = false≢true (sym (absent S T p a k.t1 k.t2 k.t3) ∙ ap (cell S k.t1 k.t2 k.t3) (sym e) ∙ b.cell)
    goes (inr e) = b.other e

-- all that an insertion is seen to be
pub insertion : (S T : PointSet) (p : Vertex) → solid S ≡ true → IsAdd S p T → Insertion (cell S) (cell T) p
insertion S T p s a = record {
  before = complex_of S;
  after = complex_of T;
  whole = stars.closed_part (cell S) (complex_of S) (base.closed_full S);
  star = stars.star_closed (cell T) (complex_of T) p a.finite (base.star_full T p a.present);
  absent = absent S T p a;
  old = old S T p s a;
  met = rim S T p s a;
}

-- every point of a cell that v takes away is in a cell with v: else all cells there would go, and some cell there is
-- left
pub linked : (S T : PointSet) (v : Vertex) → solid S ≡ true → IsAdd S v T → (w x y z : Vertex) →
    gone (cell S) (cell T) w x y z ≡ true →
    z ≢ far → AreLinked (cell T) v z
linked S T v s a w x y z g f =
    elim (search_pair (λ i j. cell T i j z v) (complex_of T).vertices (complex_of T).vertices) [
      | inl r ↦ record { t1 = r.a; t2 = r.b; cell = r.holds }
      | inr h ↦ absurd (none (λ i j. false_if _ λ e. false≢true (sym (h i j
          ((complex_of T).laws.listed j z v i (sym (first_last (cell T) (test_symmetric T) i j z v) ∙ e))
          ((complex_of T).laws.listed i z v j (sym (second_last (cell T) (test_symmetric T) i j z v) ∙ e))) ∙ e)))
    ]
  where
    st : solid T ≡ true
    st = solid_add S T v s a

    c : cell S w x y z ≡ true
    c = (and_not_from (cell S w x y z) (cell T w x y z) g).0

    hz : has_as_point S z ≡ true
    hz = base.point S w x y z c f

    none : ((i j : Vertex) → cell T i j z v ≡ false) → ⊥
    none h = at_corner (cases_vertex k.t1 v) (cases_vertex k.t2 v) (cases_vertex k.t3 v)
      where
        k : Corner (cell T) z
        k = base.corner T z st (larger S T v a z hz)

        sg : Symmetric (gone (cell S) (cell T))
        sg = without_symmetric (cell S) (cell T) (test_symmetric S) (test_symmetric T)

        step : (t1 t2 p q : Vertex) → cell S t1 t2 p z ≡ true → gone (cell S) (cell T) t1 t2 p z ≡ true →
            cell S t1 t2 q z ≡ true →
            gone (cell S) (cell T) t1 t2 q z ≡ true
        step t1 t2 p q hp gp hq = go (cell T t1 t2 q z) refl
          where
            go : (b : Bool) → cell T t1 t2 q z ≡ b → gone (cell S) (cell T) t1 t2 q z ≡ true
            go false e = and_not (cell S t1 t2 q z) (cell T t1 t2 q z) hq e
            go true e =
                absurd (false≢true (sym (h t1 t2) ∙ rim_makes_new (cell S) (cell T) v (insertion S T v s a) t1 t2 z
                record {
                  kept = q;
                  lost = p;
                  kept_before = (test_symmetric S).last t1 t2 z q ∙ hq;
                  kept_after = (test_symmetric T).last t1 t2 z q ∙ e;
                  lost_before = (test_symmetric S).last t1 t2 z p ∙ hp;
                  lost_after =
                      (test_symmetric T).last t1 t2 z p ∙ (and_not_from (cell S t1 t2 p z) (cell T t1 t2 p z) gp).1;
                }))

        all : (b1 b2 b3 : Vertex) → cell S b1 b2 b3 z ≡ true → gone (cell S) (cell T) b1 b2 b3 z ≡ true
        all =
            stars.star_closed (cell S) (complex_of S) z f (base.star_full S z hz)
            (λ b1 b2 b3. gone (cell S) (cell T) b1 b2 b3 z)
            record { first = λ i j o. sg.first i j o z; last = λ i j o. sg.middle i j o z } w x y c g step

        zv : z ≢ v
        zv e = false≢true (sym (absent S T v a w x y) ∙ ap (cell S w x y) (sym e) ∙ c)

        at_corner : (k.t1 ≡ v) ⊎ (k.t1 ≡ v → ⊥) → (k.t2 ≡ v) ⊎ (k.t2 ≡ v → ⊥) → (k.t3 ≡ v) ⊎ (k.t3 ≡ v → ⊥) → ⊥
        at_corner (inl e) q r =
            false≢true (sym (h k.t2 k.t3) ∙ ap (cell T k.t2 k.t3 z) (sym e)
            ∙ sym (first_last (cell T) (test_symmetric T) k.t1 k.t2 k.t3 z) ∙ k.cell)
        at_corner (inr i) (inl e) r =
            false≢true (sym (h k.t1 k.t3) ∙ ap (cell T k.t1 k.t3 z) (sym e)
            ∙ sym (second_last (cell T) (test_symmetric T) k.t1 k.t2 k.t3 z) ∙ k.cell)
        at_corner (inr i) (inr j) (inl e) =
            false≢true (sym (h k.t1 k.t2) ∙ ap (cell T k.t1 k.t2 z) (sym e)
            ∙ sym ((test_symmetric T).last k.t1 k.t2 k.t3 z) ∙ k.cell)
        at_corner (inr i) (inr j) (inr o) =
            false≢true (sym (and_not_from (cell S k.t1 k.t2 k.t3 z) (cell T k.t1 k.t2 k.t3 z)
            (all k.t1 k.t2 k.t3 (old S T v s a k.t1 k.t2 k.t3 z k.cell i j o zv))).1 ∙ k.cell)
