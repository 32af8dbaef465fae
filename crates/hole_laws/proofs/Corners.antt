-- Opposite sides of a square of sets reach the same; the corners of such a square.
use Rattle.std.specs.Prelude.{◌≡◌, Bool, true, false, not, ◌&&◌, ◌||◌, ◌≢◌, ◌⊎◌, ◌↔◌}
use Rattle.std.proofs.Common.{refl, sym, ap, ◌∙◌, inl, inr}
use Rattle.std.proofs.lemmas.Bool.{false≢true}
use Rattle.list_laws.proofs.Cited.{same_from, same_true}
use Rattle.del_laws.specs.Cells.{Vertex, point, far}
use Rattle.del_laws.specs.PointSets.{PointSet, solid, cell, minus, same_vertex, is_point, has_as_point, set_with}
use Rattle.del_laws.proofs.Cited.{extensional, has_minus, has_plus}
use Rattle.hole_laws.proofs.Tests.{IsAdd, gone}
use Rattle.hole_laws.proofs.Vertices.{cases_vertex}
use Rattle.hole_laws.proofs.Squares.{Square, At, Rho, Disjoint}
use Rattle.hole_laws.proofs.Squares as sq
use Rattle.hole_laws.proofs.Ends.{corner_solid, opposite}

-- ---- vertices

-- vertices that are told to be one are
same_vertex_true : (a b : Vertex) → same_vertex a b ≡ true → a ≡ b
same_vertex_true (point a) (point b) h = ap point (same_from a b h)
same_vertex_true far far h = refl
same_vertex_true (point a) far h = absurd (false≢true h)
same_vertex_true far (point b) h = absurd (false≢true h)

-- and a vertex is itself
same_vertex_self : (a : Vertex) → same_vertex a a ≡ true
same_vertex_self (point a) = same_true a a refl
same_vertex_self far = refl

-- a point is not the infinite vertex
pub point_finite : (p : Vertex) → is_point p ≡ true → p ≢ far
point_finite (point a) h e = cc
point_finite far h e = false≢true h

-- ---- sides

-- what a side reaches, where both take away the same cells
at_along : (S T U V : PointSet) → ((v1 v2 v3 v4 : Vertex) → gone (cell S) (cell T) v1 v2 v3 v4
    ≡ gone (cell U) (cell V) v1 v2 v3 v4) → (q : Vertex) → At S T q → At U V q
at_along S T U V h q a =
    record { t1 = a.t1; t2 = a.t2; t3 = a.t3; cell = sym (h a.t1 a.t2 a.t3 q) ∙ a.cell; finite = a.finite }

-- in both directions
at_both : (S T U V : PointSet) → ((v1 v2 v3 v4 : Vertex) → gone (cell S) (cell T) v1 v2 v3 v4
    ≡ gone (cell U) (cell V) v1 v2 v3 v4) → (q : Vertex) → At S T q ↔ At U V q
at_both S T U V h q = (at_along S T U V h q, at_along U V S T (λ v1 v2 v3 v4. sym (h v1 v2 v3 v4)) q)

-- the first corner is solid, and opposite sides reach the same
pub record Agree (R A B T : PointSet) : Type 0 where
  pub smaller : solid R ≡ true
  pub by_x : (q : Vertex) → At R A q ↔ At B T q
  pub by_y : (q : Vertex) → At R B q ↔ At A T q

-- the new point with them
pub rho_along : (S T U V : PointSet) (x q : Vertex) → (At S T q → At U V q) → Rho S T x q → Rho U V x q
rho_along S T U V x q f (inl e) = inl e
rho_along S T U V x q f (inr a) = inr (f a)

-- both sides from R
pub agree_low : (R A B T : PointSet) (x y : Vertex) → Square R A B T x y → solid R ≡ true →
    Disjoint (Rho R A x) (Rho R B y) → Agree R A B T
agree_low R A B T x y q s d = record {
  smaller = s;
  by_x = at_both R A B T (λ v1 v2 v3 v4. sym (sq.same_far R B A T y x
      (sq.turned R A B T x y q) s (λ e a b. d e b a) v1 v2 v3 v4));
  by_y = at_both R B A T (λ v1 v2 v3 v4. sym (sq.same_far R A B T x y q s d v1 v2 v3 v4));
}

-- from R by way of A
pub agree_up : (R A B T : PointSet) (x y : Vertex) → Square R A B T x y → solid R ≡ true →
    Disjoint (Rho R A x) (Rho A T y) → Agree R A B T
agree_up R A B T x y q s d = agree_low R A B T x y q s λ e a b.
    d e a (rho_along R B A T y e (at_along R B A T (sq.same_near R A B T x y q s d) e) b)

-- the square with its sides exchanged
pub agree_turned : (R A B T : PointSet) → Agree R B A T → Agree R A B T
agree_turned R A B T a = record { smaller = a.smaller; by_x = a.by_y; by_y = a.by_x }

-- from B by way of T
pub agree_across : (R A B T : PointSet) (x y : Vertex) → Square R A B T x y → solid A ≡ true → solid B ≡ true →
    Disjoint (Rho B T x) (Rho A T y) → Agree R A B T
agree_across R A B T x y q sa sb d = agree_turned R A B T (agree_up R B A T y x (sq.turned R A B T x y q)
    (corner_solid R A B T x y q sa sb d)
    λ e a b. d e b (rho_along R B A T y e (opposite R A B T x y q sa sb d e).0 a))

-- the corners of a square
pub plus_adds : (S : PointSet) (p : Vertex) → is_point p ≡ true → has_as_point S p ≡ false → IsAdd S p (set_with S p)
plus_adds S p n f = record {
  finite = point_finite p n;
  absent = f;
  present = has_plus S p p n ∙ ap (λ b. b || has_as_point S p) (same_vertex_self p);
  same = λ q m. has_plus S p q n ∙ other (same_vertex p q) (has_as_point S q) (λ e. m (sym (same_vertex_true p q e)));
}
  where
    other : (a b : Bool) → (a ≡ true → ⊥) → (a || b) ≡ b
    other true b h = absurd (h refl)
    other false b h = refl

-- a set has one more point than the set without it
pub minus_adds : (S : PointSet) (p : Vertex) → has_as_point S p ≡ true → IsAdd (minus S p) p S
minus_adds S p h = record {
  finite = λ e. false≢true (ap (has_as_point S) (sym e) ∙ h);
  absent = has_minus S p p ∙ ap (λ b. not b && has_as_point S p) (same_vertex_self p);
  present = h;
  same = λ q m. sym (has_minus S p q
      ∙ other (same_vertex p q) (has_as_point S q) (λ e. m (sym (same_vertex_true p q e))));
}
  where
    other : (a b : Bool) → (a ≡ true → ⊥) → (not a && b) ≡ b
    other true b h = absurd (h refl)
    other false b h = refl

-- a set with a point is one
pub adds_same : (S T U : PointSet) (p : Vertex) → IsAdd S p T → IsAdd S p U → T ≡ U
adds_same S T U p a b = extensional T U λ q. go q (cases_vertex q p)
  where
    go : (q : Vertex) → (q ≡ p) ⊎ (q ≡ p → ⊥) → has_as_point T q ≡ has_as_point U q
    go q (inl e) = ap (has_as_point T) e ∙ a.present ∙ sym b.present ∙ ap (has_as_point U) (sym e)
    go q (inr n) = a.same q n ∙ sym (b.same q n)

-- and so is a set without one
pub takes_same : (S T U : PointSet) (p : Vertex) → IsAdd S p U → IsAdd T p U → S ≡ T
takes_same S T U p a b = extensional S T λ q. go q (cases_vertex q p)
  where
    go : (q : Vertex) → (q ≡ p) ⊎ (q ≡ p → ⊥) → has_as_point S q ≡ has_as_point T q
    go q (inl e) = ap (has_as_point S) e ∙ a.absent ∙ sym b.absent ∙ ap (has_as_point T) (sym e)
    go q (inr n) = sym (a.same q n) ∙ b.same q n

-- the fourth corner from the first three
pub upper : (R A B T : PointSet) (x y : Vertex) → x ≢ y → IsAdd R x A → IsAdd R y B → IsAdd A y T → IsAdd B x T
upper R A B T x y n ra rb at = record {
  finite = ra.finite;
  absent = rb.same x n ∙ ra.absent;
  present = at.same x n ∙ ra.present;
  same = λ q m. go q m (cases_vertex q y);
}
  where
    go : (q : Vertex) → q ≢ x → (q ≡ y) ⊎ (q ≡ y → ⊥) → has_as_point T q ≡ has_as_point B q
    go q m (inl e) = ap (has_as_point T) e ∙ at.present ∙ sym rb.present ∙ ap (has_as_point B) (sym e)
    go q m (inr k) = at.same q k ∙ ra.same q m ∙ sym (rb.same q k)

-- the second corner from the others
pub lower : (R A B T : PointSet) (x y : Vertex) → x ≢ y → IsAdd R y B → IsAdd B x T → IsAdd A y T → IsAdd R x A
lower R A B T x y n rb bt at = record {
  finite = bt.finite;
  absent = sym (rb.same x n) ∙ bt.absent;
  present = sym (at.same x n) ∙ bt.present;
  same = λ q m. go q m (cases_vertex q y);
}
  where
    go : (q : Vertex) → q ≢ x → (q ≡ y) ⊎ (q ≡ y → ⊥) → has_as_point A q ≡ has_as_point R q
    go q m (inl e) = ap (has_as_point A) e ∙ at.absent ∙ sym rb.absent ∙ ap (has_as_point R) (sym e)
    go q m (inr k) = sym (at.same q k) ∙ bt.same q m ∙ rb.same q k
