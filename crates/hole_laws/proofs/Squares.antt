-- Two new points of a set, one after the other: where what they reach is apart, each takes away the same cells before
-- and after the other.
use Rattle.std.specs.Prelude.{◌≡◌, Bool, true, false, ◌≢◌, ◌⊎◌}
use Rattle.std.proofs.Common.{refl, sym, ap, ◌∙◌, subst, inl, inr}
use Rattle.std.proofs.lemmas.Bool.{false≢true}
use Rattle.list_laws.proofs.Cited.{and_not, and_not_from, false_if, same_test}
use Rattle.del_laws.specs.Cells.{Vertex, far}
use Rattle.del_laws.specs.Base.{Symmetric}
use Rattle.del_laws.specs.PointSets.{PointSet, solid, cell}
use Rattle.del_laws.proofs.Cited.{test_symmetric}
use Rattle.hole_laws.proofs.Tests.{IsAdd, IsAtGone, gone}
use Rattle.hole_laws.proofs.Vertices.{cases_vertex, first_last, second_last}
use Rattle.hole_laws.proofs.Rims.{last_apart, absent_all, new_has_rim, without_symmetric}
use Rattle.hole_laws.proofs.Region.{region}
use Rattle.hole_laws.proofs.FromBase.{complex_of}
use Rattle.hole_laws.proofs.FromBase as from

-- the cells that go
abbrev pub goes : PointSet → PointSet → Vertex → Vertex → Vertex → Vertex → Bool
goes S T = gone (cell S) (cell T)

-- and so is one that goes
pub goes_symmetric : (S T : PointSet) → Symmetric (goes S T)
goes_symmetric S T = without_symmetric (cell S) (cell T) (test_symmetric S) (test_symmetric T)

-- a cell that goes is one of the one set and none of the other
pub goes_is : (S T : PointSet) (w x y z : Vertex) → goes S T w x y z ≡ true → (cell S w x y z ≡ true)
    × (cell T w x y z ≡ false)
goes_is S T w x y z h = and_not_from (cell S w x y z) (cell T w x y z) h

-- and back
pub to_goes : (S T : PointSet) (w x y z : Vertex) → cell S w x y z ≡ true → (cell T w x y z ≡ true → ⊥) →
    goes S T w x y z ≡ true
to_goes S T w x y z h n = and_not (cell S w x y z) (cell T w x y z) h (false_if _ n)

-- a facet has a point
pub facet_point : (S : PointSet) (t1 t2 t3 x : Vertex) → cell S t1 t2 t3 x ≡ true → (t3 ≢ far) ⊎ (t2 ≢ far)
facet_point S t1 t2 t3 x h =
    pick t2 t3 far (last_apart (cell S) (complex_of S) x t1 t2 t3 rot).0 (cases_vertex t3 far) (cases_vertex t2 far)
  where
    rot : cell S x t1 t2 t3 ≡ true
    rot = first_last (cell S) (test_symmetric S) x t1 t2 t3 ∙ h

    pick : (a b o : Vertex) → b ≢ a → (b ≡ o) ⊎ (b ≡ o → ⊥) → (a ≡ o) ⊎ (a ≡ o → ⊥) → (b ≢ o) ⊎ (a ≢ o)
    pick a b o n (inr m) q = inl m
    pick a b o n (inl e) (inr m) = inr m
    pick a b o n (inl e) (inl f) = absurd (n (e ∙ sym f))

-- q is a point of a cell that goes
abbrev pub At : PointSet → PointSet → Vertex → Type 0
At S T q = IsAtGone (cell S) (cell T) q

-- the new point with them: what the insertion reaches
abbrev pub Rho : PointSet → PointSet → Vertex → Vertex → Type 0
Rho S T x q = (q ≡ x) ⊎ At S T q

-- no vertex is in both
abbrev pub Disjoint : (Vertex → Type 0) → (Vertex → Type 0) → Type 0
Disjoint P Q = (q : Vertex) → P q → Q q → ⊥

-- the points of a cell that goes: the third
pub at_third : (S T : PointSet) (t1 t2 t3 z : Vertex) → goes S T t1 t2 t3 z ≡ true → t3 ≢ far → At S T t3
at_third S T t1 t2 t3 z h n =
    record { t1 = t1; t2 = t2; t3 = z; cell = sym ((goes_symmetric S T).last t1 t2 t3 z) ∙ h; finite = n }

-- the second
pub at_second : (S T : PointSet) (t1 t2 t3 z : Vertex) → goes S T t1 t2 t3 z ≡ true → t2 ≢ far → At S T t2
at_second S T t1 t2 t3 z h n = record {
  t1 = t1;
  t2 = t3;
  t3 = z;
  cell = sym (second_last (goes S T) (goes_symmetric S T) t1 t2 t3 z) ∙ h;
  finite = n;
}

-- the first
pub at_first : (S T : PointSet) (t1 t2 t3 z : Vertex) → goes S T t1 t2 t3 z ≡ true → t1 ≢ far → At S T t1
at_first S T t1 t2 t3 z h n = record {
  t1 = t2;
  t2 = t3;
  t3 = z;
  cell = sym (first_last (goes S T) (goes_symmetric S T) t1 t2 t3 z) ∙ h;
  finite = n;
}

-- cells that go share no facet where the points are apart
pub share : (S T U V : PointSet) (p q : Vertex) → Disjoint (Rho S T p) (Rho U V q) → (t1 t2 t3 x y : Vertex) →
    goes S T t1 t2 t3 x ≡ true → goes U V t1 t2 t3 y ≡ true → ⊥
share S T U V p q d t1 t2 t3 x y hx hy = go (facet_point S t1 t2 t3 x (goes_is S T t1 t2 t3 x hx).0)
  where
    go : (t3 ≢ far) ⊎ (t2 ≢ far) → ⊥
    go (inl n) = d t3 (inr (at_third S T t1 t2 t3 x hx n)) (inr (at_third U V t1 t2 t3 y hy n))
    go (inr n) = d t2 (inr (at_second S T t1 t2 t3 x hx n)) (inr (at_second U V t1 t2 t3 y hy n))

-- a point that is at no cell that goes is a vertex of none
pub no_vertex : (S T : PointSet) (p : Vertex) → p ≢ far → (At S T p → ⊥) → (w x y z : Vertex) →
    goes S T w x y z ≡ true → (w ≢ p) × (x ≢ p) × (y ≢ p) × (z ≢ p)
no_vertex S T p n h w x y z g = (
  λ e. h (subst (At S T) e (at_first S T w x y z g (λ f. n (sym e ∙ f)))),
  λ e. h (subst (At S T) e (at_second S T w x y z g (λ f. n (sym e ∙ f)))),
  λ e. h (subst (At S T) e (at_third S T w x y z g (λ f. n (sym e ∙ f)))),
  λ e. h (subst (At S T) e record { t1 = w; t2 = x; t3 = y; cell = g; finite = λ f. n (sym e ∙ f) }),
)

-- nor of any cell of a set that does not have it
pub absent : (S T : PointSet) (p : Vertex) → solid S ≡ true → IsAdd S p T → (w x y z : Vertex) → cell S w x y z ≡ true →
    (w ≢ p) × (x ≢ p) × (y ≢ p) × (z ≢ p)
absent S T p s a = absent_all (cell S) (cell T) p (from.insertion S T p s a)

-- four sets: R, then with x, with y, with both
pub record Square (R A B T : PointSet) (x y : Vertex) : Type 0 where
  pub ra : IsAdd R x A
  pub rb : IsAdd R y B
  pub at : IsAdd A y T
  pub bt : IsAdd B x T

-- the same set with the two points exchanged
pub turned : (R A B T : PointSet) (x y : Vertex) → Square R A B T x y → Square R B A T y x
turned R A B T x y q = record { ra = q.rb; rb = q.ra; at = q.bt; bt = q.at }

module _ (R A B T : PointSet) (x y : Vertex) (q : Square R A B T x y) (s : solid R ≡ true) where
  -- with a point the set is solid
  solid_a : solid A ≡ true
  solid_a = from.solid_add R A x s q.ra

  -- with the other too
  solid_b : solid B ≡ true
  solid_b = from.solid_add R B y s q.rb

  -- y takes away as much from A as from R, where it is far from x at R
  far_into : Disjoint (Rho R A x) (Rho R B y) → (v1 v2 v3 v4 : Vertex) → goes R B v1 v2 v3 v4 ≡ true →
      goes A T v1 v2 v3 v4 ≡ true
  far_into d v1 v2 v3 v4 h = to_goes A T v1 v2 v3 v4 (there (cell A v1 v2 v3 v4) refl) λ t.
      let n = absent R A x s q.ra v1 v2 v3 v4 g.0 in
      false≢true (sym g.1 ∙ from.old B T x solid_b q.bt v1 v2 v3 v4 t n.0 n.1 n.2 n.3)
    where
      g : (cell R v1 v2 v3 v4 ≡ true) × (cell B v1 v2 v3 v4 ≡ false)
      g = goes_is R B v1 v2 v3 v4 h

      there : (b : Bool) → cell A v1 v2 v3 v4 ≡ b → cell A v1 v2 v3 v4 ≡ true
      there true e = e
      there false e =
          absurd (share R A R B x y d v1 v2 v3 v4 v4 (and_not (cell R v1 v2 v3 v4) (cell A v1 v2 v3 v4) g.0 e) h)

  -- and no more: across a facet of such a cell from A lies such a cell
  far_closed : Disjoint (Rho R A x) (Rho R B y) → (t1 t2 t3 z w : Vertex) → goes R B t1 t2 t3 z ≡ true →
      goes A T t1 t2 t3 w ≡ true → goes R B t1 t2 t3 w ≡ true
  far_closed d t1 t2 t3 z w hz hw = go (cases_vertex w x)
    where
      k : (cell A t1 t2 t3 w ≡ true) × (cell T t1 t2 t3 w ≡ false)
      k = goes_is A T t1 t2 t3 w hw

      n : (t1 ≢ x) × (t2 ≢ x) × (t3 ≢ x) × (z ≢ x)
      n = absent R A x s q.ra t1 t2 t3 z (goes_is R B t1 t2 t3 z hz).0

      go : (w ≡ x) ⊎ (w ≡ x → ⊥) → goes R B t1 t2 t3 w ≡ true
      go (inl e) =
          let r = new_has_rim (cell R) (cell A) x (from.insertion R A x s q.ra) t1 t2 t3
          (ap (cell A t1 t2 t3) (sym e) ∙ k.0) in
          absurd (share R A R B x y d t1 t2 t3 r.lost z (and_not (cell R t1 t2 t3 r.lost) (cell A t1 t2 t3 r.lost)
          r.lost_before r.lost_after) hz)
      go (inr m) = to_goes R B t1 t2 t3 w (from.old R A x s q.ra t1 t2 t3 w k.0 n.0 n.1 n.2 m)
          λ h. false≢true (sym k.1 ∙ from.meet R A B T x y s q.ra q.rb q.at t1 t2 t3 w k.0 h)

  -- so y takes away the same cells
  pub same_far : Disjoint (Rho R A x) (Rho R B y) → (v1 v2 v3 v4 : Vertex) → goes A T v1 v2 v3 v4 ≡ goes R B v1 v2 v3 v4
  same_far d v1 v2 v3 v4 =
      let m = from.rim R B y s q.rb in
      same_test (goes A T v1 v2 v3 v4) (goes R B v1 v2 v3 v4)
      (λ h. region (cell A) (cell T) y (from.insertion A T y solid_a q.at)
      (goes R B) (goes_symmetric R B) (far_into d) (far_closed d) m.t1 m.t2 m.t3 m.rim.lost
      (and_not (cell R m.t1 m.t2 m.t3 m.rim.lost) (cell B m.t1 m.t2 m.t3 m.rim.lost) m.rim.lost_before m.rim.lost_after)
      v1 v2 v3 v4 h)
      (far_into d v1 v2 v3 v4)

  -- the same, where it is far from x at A
  near_into : Disjoint (Rho R A x) (Rho A T y) → (v1 v2 v3 v4 : Vertex) → goes A T v1 v2 v3 v4 ≡ true →
      goes R B v1 v2 v3 v4 ≡ true
  near_into d v1 v2 v3 v4 h = to_goes R B v1 v2 v3 v4 (from.old R A x s q.ra v1 v2 v3 v4 g.0 n.0 n.1 n.2 n.3)
      λ b. false≢true (sym g.1 ∙ from.meet R A B T x y s q.ra q.rb q.at v1 v2 v3 v4 g.0 b)
    where
      g : (cell A v1 v2 v3 v4 ≡ true) × (cell T v1 v2 v3 v4 ≡ false)
      g = goes_is A T v1 v2 v3 v4 h

      n : (v1 ≢ x) × (v2 ≢ x) × (v3 ≢ x) × (v4 ≢ x)
      n = no_vertex A T x q.ra.finite (λ a. d x (inl refl) (inr a)) v1 v2 v3 v4 h

  -- and no less
  near_closed : Disjoint (Rho R A x) (Rho A T y) → (t1 t2 t3 z w : Vertex) → goes A T t1 t2 t3 z ≡ true →
      goes R B t1 t2 t3 w ≡ true → goes A T t1 t2 t3 w ≡ true
  near_closed d t1 t2 t3 z w hz hw = go (cell A t1 t2 t3 w) refl
    where
      k : (cell R t1 t2 t3 w ≡ true) × (cell B t1 t2 t3 w ≡ false)
      k = goes_is R B t1 t2 t3 w hw

      n : (t1 ≢ x) × (t2 ≢ x) × (t3 ≢ x) × (w ≢ x)
      n = absent R A x s q.ra t1 t2 t3 w k.0

      go : (b : Bool) → cell A t1 t2 t3 w ≡ b → goes A T t1 t2 t3 w ≡ true
      go true e =
          to_goes A T t1 t2 t3 w e λ t. false≢true (sym k.1 ∙ from.old B T x solid_b q.bt t1 t2 t3 w t n.0 n.1 n.2 n.3)
      go false e = absurd (share R A A T x y d t1 t2 t3 w z (and_not (cell R t1 t2 t3 w) (cell A t1 t2 t3 w) k.0 e) hz)

  -- so it takes away the same cells
  pub same_near : Disjoint (Rho R A x) (Rho A T y) → (v1 v2 v3 v4 : Vertex) →
      goes R B v1 v2 v3 v4 ≡ goes A T v1 v2 v3 v4
  same_near d v1 v2 v3 v4 =
      let m = from.rim A T y solid_a q.at in
      same_test (goes R B v1 v2 v3 v4) (goes A T v1 v2 v3 v4)
      (λ h. region (cell R) (cell B) y (from.insertion R B y s q.rb)
      (goes A T) (goes_symmetric A T) (near_into d) (near_closed d) m.t1 m.t2 m.t3 m.rim.lost
      (and_not (cell A m.t1 m.t2 m.t3 m.rim.lost) (cell T m.t1 m.t2 m.t3 m.rim.lost) m.rim.lost_before m.rim.lost_after)
      v1 v2 v3 v4 h)
      (near_into d v1 v2 v3 v4)
