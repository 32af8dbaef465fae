-- The facts of specs/Base hold for the complexes of sets of points: all but the star law.
--
use Rattle.std.specs.Prelude.{◌≡◌, ◌≢◌, refl, ℕ, true, List, ◌⊎◌}
use Rattle.std.proofs.Common.{inl, inr, sym, subst, ◌∙◌}
use Rattle.list_laws.proofs.Cited.{false_if, same_test}
use Rattle.point_order.specs.Heights.{height}
use Rattle.point_order.specs.Sets.{IsIn}
use Rattle.del_laws.specs.Cells.{Full, Vertex, point, far, Held, OneOf, Inside}
use Rattle.del_laws.specs.PointSets.{PointSet, solid, cell, vertices, has_as_point}
use Rattle.del_laws.specs.Base.{Symmetric, Across, Complex, Corner, Within, IsVertexOf}
use Rattle.del_laws.proofs.CellFacts.{full_apart, open_not_twice}
use Rattle.del_laws.proofs.Orders.{swap12, swap23, swap34}
use Rattle.del_laws.proofs.Pairs.{not_twice, far_point}
use Rattle.del_laws.proofs.Facets.{facing}
use Rattle.del_laws.proofs.Walks.{every_point}
use Rattle.del_laws.proofs.Existence.{exists_full}
use Rattle.del_laws.proofs.Smaller.{smaller, held_inside, union}
use Rattle.del_laws.proofs.Perturbed.{no_ties, is_convex}
use Rattle.del_laws.proofs.Bools.{cell_true, cell_from}
use Rattle.del_laws.proofs.PointSets.{keys_of, has_from, has_true, within, solid_from, solid_true, solid_more, in_map}
use Rattle.del_laws.proofs.PointSets.{distinct_vertices}

-- a cell passes the test
pub test_true : (s : PointSet) (w x y z : Vertex) → Held height s.points w x y z → cell s w x y z ≡ true
unfolding cell
test_true s w x y z m = cell_true s.points (keys_of s) w x y z m

-- what passes it is a cell
pub test_from : (s : PointSet) (w x y z : Vertex) → cell s w x y z ≡ true → Held height s.points w x y z
unfolding cell
test_from s w x y z e = cell_from s.points w x y z e

-- no cell has a vertex twice
pub no_twice : (s : List ℕ) (w x y : Vertex) → Held height s w x y y → ⊥
no_twice s (point a) (point b) y m = not_twice height s a b y m
no_twice s (point a) far (point b) m = elim m [ inl F ↦ open_not_twice F | inr F ↦ open_not_twice F ]
no_twice s (point a) far far m = m
no_twice s far (point a) (point b) m = elim m [ inl F ↦ open_not_twice F | inr F ↦ open_not_twice F ]
no_twice s far (point a) far m = m
no_twice s far far y m = m

-- the test does not depend on the order
pub test_symmetric : (s : PointSet) → Symmetric (cell s)
test_symmetric s = record {
  first = λ w x y z. same_test (cell s w x y z) (cell s x w y z)
      (λ e. test_true s x w y z (swap12 height s.points w x y z (test_from s w x y z e)))
      (λ e. test_true s w x y z (swap12 height s.points x w y z (test_from s x w y z e)));
  middle = λ w x y z. same_test (cell s w x y z) (cell s w y x z)
      (λ e. test_true s w y x z (swap23 height s.points w x y z (test_from s w x y z e)))
      (λ e. test_true s w x y z (swap23 height s.points w y x z (test_from s w y x z e)));
  last = λ w x y z. same_test (cell s w x y z) (cell s w x z y)
      (λ e. test_true s w x z y (swap34 height s.points w x y z (test_from s w x y z e)))
      (λ e. test_true s w x y z (swap34 height s.points w x z y (test_from s w x z y e)));
}

-- a vertex of a cell is one of the set's
pub test_listed : (s : PointSet) (w x y z : Vertex) → cell s w x y z ≡ true → IsIn z (vertices s)
test_listed s w x y far e = inl refl
test_listed s w x y (point k) e =
    inr (in_map k s.points (held_inside height s.points w x y (point k) (test_from s w x y (point k) e)).fourth)

-- the facet law
test_across : (s : PointSet) (t1 t2 t3 x : Vertex) → cell s t1 t2 t3 x ≡ true → Across (cell s) t1 t2 t3 x
test_across s t1 t2 t3 x e =
    let f = facing height s.points (no_ties s.points (keys_of s)) t1 t2 t3 x (test_from s t1 t2 t3 x e) in
    record {
      beyond = f.other;
      other = f.differs;
      cell = test_true s t1 t2 t3 f.other f.cell;
      only = λ z m. f.only z (test_from s t1 t2 t3 z m);
    }

-- what the facet law and the definition of a cell give
pub test_complex : (s : PointSet) → Complex (cell s) (vertices s)
test_complex s = record {
  symmetric = test_symmetric s;
  apart = λ w x y. false_if (cell s w x y y) (λ e. no_twice s.points w x y (test_from s w x y y e));
  distinct = distinct_vertices s;
  listed = test_listed s;
  across = test_across s;
}

-- a point of a cell is one of the set
pub test_point : (s : PointSet) (w x y z : Vertex) → cell s w x y z ≡ true → z ≢ far → has_as_point s z ≡ true
test_point s w x y far e n = absurd (n refl)
test_point s w x y (point k) e n =
    has_true s k (held_inside height s.points w x y (point k) (test_from s w x y (point k) e)).fourth

-- a vertex that a cell can have
inside_of : (t : PointSet) (z : Vertex) → IsVertexOf PointSet has_as_point t z → Inside t.points z
inside_of t far m = tt
inside_of t (point k) m = elim m [ inl e ↦ absurd (far_point k (sym e)) | inr e ↦ has_from t k e ]

-- smaller sets
pub test_smaller : (s t : PointSet) → solid t ≡ true → Within PointSet has_as_point t s → (w x y z : Vertex) →
    cell s w x y z ≡ true → IsVertexOf PointSet has_as_point t w → IsVertexOf PointSet has_as_point t x →
    IsVertexOf PointSet has_as_point t y →
    IsVertexOf PointSet has_as_point t z → cell t w x y z ≡ true
test_smaller s t i f w x y z e a b c d =
    test_true t w x y z (smaller height t.points s.points (within s t f) (solid_from t.points i) w x y z
    (test_from s w x y z e)
    (record { first = inside_of t w a; second = inside_of t x b; third = inside_of t y c; fourth = inside_of t z d }))

-- two sets
pub test_union : (r s t u : PointSet) → solid r ≡ true → Within PointSet has_as_point r s →
    Within PointSet has_as_point r t →
    Within PointSet has_as_point s u →
    ((q : Vertex) → has_as_point u q ≡ true → (has_as_point s q ≡ true) ⊎ (has_as_point t q ≡ true)) →
    (w x y z : Vertex) → cell s w x y z ≡ true → cell t w x y z ≡ true → cell u w x y z ≡ true
test_union r s t u i rs rt su cover w x y z e f =
    test_true u w x y z (union height r.points s.points t.points u.points (solid_from r.points i) (within s r rs)
    (within t r rt) (within u s su)
    (λ q m. elim (cover (point q) (has_true u q m)) [ inl k ↦ inl (has_from s q k) | inr k ↦ inr (has_from t q k) ])
    w x y z (test_from s w x y z e) (test_from t w x y z f))

-- a point is not the infinite vertex
pub point_finite : (a : ℕ) → point a ≢ far
point_finite a e = far_point a (sym e)

-- every point is a vertex of a Full cell
pub test_corner : (s : PointSet) (v : Vertex) → solid s ≡ true → has_as_point s v ≡ true → Corner (cell s) v
test_corner s far i m = cc
test_corner s (point e) i m =
    let n = no_ties s.points (keys_of s) in
    let F = exists_full n (solid_from s.points i) in
    let t = every_point n (is_convex s.points (keys_of s)) F.full e (has_from s e m) in
    by_place t.f.a t.f.b t.f.c t.f.d (test_true s (point t.f.a) (point t.f.b) (point t.f.c) (point t.f.d) (inl t.full))
    t.has
  where
    -- as the last vertex
    corner : (a b c x : ℕ) → cell s (point a) (point b) (point c) (point x) ≡ true → x ≡ e → Corner (cell s) (point e)
    corner a b c x k q = record {
      t1 = point a;
      t2 = point b;
      t3 = point c;
      cell =
          subst (λ v. cell s (point a) (point b) (point c) (point v) ≡ true) q k;
      finite1 =
          point_finite a;
      finite2 = point_finite b;
      finite3 = point_finite c;
    }

    -- whichever it is
    by_place : (a b c d : ℕ) → cell s (point a) (point b) (point c) (point d) ≡ true → OneOf e a b c d →
        Corner (cell s) (point e)
    by_place a b c d k o =
        let z = test_symmetric s in
        elim o [
          | inl q ↦ corner b c d a (sym (z.first (point a) (point b) (point c) (point d)
              ∙ z.middle (point b) (point a) (point c) (point d) ∙ z.last (point b) (point c) (point a) (point d)) ∙ k)
              q
          | inr r ↦ elim r [
            | inl q ↦ corner a c d b (sym (z.middle (point a) (point b) (point c) (point d)
                ∙ z.last (point a) (point c) (point b) (point d)) ∙ k) q
            | inr u ↦ elim u [
              | inl q ↦ corner a b d c (sym (z.last (point a) (point b) (point c) (point d)) ∙ k) q
              | inr v ↦ elim v [ inl q ↦ corner a b c d k q | inr none ↦ absurd none ]
            ]
          ]
        ]

-- a set with the points of a Full cell is solid
pub test_full_solid : (s t : PointSet) (w x y z : Vertex) → cell s w x y z ≡ true → has_as_point t w ≡ true →
    has_as_point t x ≡ true →
    has_as_point t y ≡ true → has_as_point t z ≡ true → solid t ≡ true
test_full_solid s t (point a) (point b) (point c) (point d) e i j k l =
    elim (test_from s (point a) (point b) (point c) (point d) e) [
      | inl F ↦ of_full a b c d F (has_from t a i) (has_from t b j) (has_from t c k) (has_from t d l)
      | inr F ↦ of_full a c b d F (has_from t a i) (has_from t c k) (has_from t b j) (has_from t d l)
    ]
  where
    -- in an order of positive orientation
    of_full : (a b c d : ℕ) → Full height s.points a b c d → IsIn a t.points → IsIn b t.points → IsIn c t.points →
        IsIn d t.points → solid t ≡ true
    of_full a b c d F i j k l =
        solid_true t.points (record {
          f = record { a = a; b = b; c = c; d = d };
          has_a = i;
          has_b = j;
          has_c = k;
          has_d = l;
          apart = full_apart F;
        })
test_full_solid s t far x y z e i j k l = cc
test_full_solid s t (point a) far y z e i j k l = cc
test_full_solid s t (point a) (point b) far z e i j k l = cc
test_full_solid s t (point a) (point b) (point c) far e i j k l = cc

-- a larger set than a solid one is solid
pub test_solid_more : (s t : PointSet) → solid s ≡ true → Within PointSet has_as_point s t → solid t ≡ true
test_solid_more s t i f = solid_more s.points t.points (within t s f).inside i
