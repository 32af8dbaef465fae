-- The star law over tests of vertices, and so all facts of specs/Base.
use Rattle.std.specs.Prelude.{◌≡◌, ◌≢◌, refl, ℕ, Bool, true, [], ◌∷◌, ◌⊎◌}
use Rattle.std.proofs.Common.{inl, inr, sym, subst, ◌∙◌}
use Rattle.std.proofs.Math.Decide.{ℕ_discrete}
use Rattle.list_laws.proofs.Cited.{both, either, is_true}
use Rattle.point_order.specs.Heights.{height}
use Rattle.point_order.specs.Sets.{IsIn}
use Rattle.del_laws.specs.Cells.{Full, Vertex, point, far, Held, OneOf}
use Rattle.del_laws.specs.PointSets.{PointSet, solid, cell, vertices, minus, has_as_point, set_with}
use Rattle.del_laws.specs.Base.{Symmetric, Symmetric3, AreFinite, ClosedFull, StarFull, Base}
use Rattle.del_laws.proofs.Orders.{full_left, full_right}
use Rattle.del_laws.proofs.Regions.{IsSetOf}
use Rattle.del_laws.proofs.Walks.{IsClosed}
use Rattle.del_laws.proofs.Stars.{star}
use Rattle.del_laws.proofs.Decide.{decide_full}
use Rattle.del_laws.proofs.Perturbed.{no_ties}
use Rattle.del_laws.proofs.PointSets.{keys_of, extensional, has_plus, has_minus, finite}
use Rattle.del_laws.proofs.BaseFacts.{test_true, test_from, no_twice, test_symmetric, test_complex, test_point}
use Rattle.del_laws.proofs.BaseFacts.{test_smaller, test_union, point_finite, test_corner, test_full_solid}
use Rattle.del_laws.proofs.BaseFacts.{test_solid_more}

-- four points are finite
all_finite : (a b c d : ℕ) → AreFinite (point a) (point b) (point c) (point d)
all_finite a b c d =
    record { finite1 = point_finite a; finite2 = point_finite b; finite3 = point_finite c; finite4 = point_finite d }

-- ---- around no point

module _ (s : PointSet) (q : Vertex → Vertex → Vertex → Vertex → Bool) (sq : Symmetric q)
    (closed : (t1 t2 t3 x y : Vertex) → AreFinite t1 t2 t3 x → y ≢ far → cell s t1 t2 t3 x ≡ true →
    q t1 t2 t3 x ≡ true → cell s t1 t2 t3 y ≡ true → q t1 t2 t3 y ≡ true) where
  -- the Full cells that pass
  abbrev Chosen : ℕ → ℕ → ℕ → ℕ → Type 0
  Chosen a b c d = Full height s.points a b c d × (q (point a) (point b) (point c) (point d) ≡ true)

  -- they are a set of cells
  chosen_set : IsSetOf height s.points Chosen
  chosen_set = record {
    decide =
        λ a b c d. both (decide_full height s.points a b c d) (is_true (q (point a) (point b) (point c) (point d)));
    left = λ a b c d t. (
      full_left t.0,
      sym (sq.first (point a) (point b) (point c) (point d)
          ∙ sq.middle (point b) (point a) (point c) (point d)) ∙ t.1,
    );
    right = λ a b c d t. (
      full_right t.0,
      sym (sq.middle (point a) (point b) (point c) (point d)
          ∙ sq.last (point a) (point c) (point b) (point d)) ∙ t.1,
    );
    full = λ a b c d t. t.0;
  }

  -- closed across facets
  chosen_closed : IsClosed height s.points Chosen []
  chosen_closed = record {
    across = λ a b c d f t o F. (
      F,
      sym (sq.middle (point a) (point b) (point c) (point f)) ∙ closed (point a) (point b) (point c) (point d) (point f)
          (all_finite a b c d) (point_finite f)
          (test_true s (point a) (point b) (point c) (point d) (inl t.0)) t.1
          (test_true s (point a) (point b) (point c) (point f) (inr F)),
    );
  }

  -- so they are all
  chosen_all : (a b c d i j l m : ℕ) → Chosen a b c d → Full height s.points i j l m →
      q (point i) (point j) (point l) (point m) ≡ true
  chosen_all a b c d i j l m t F =
      (star (no_ties s.points (keys_of s)) chosen_set chosen_closed t F (record { one_of = λ x k. absurd k })).1

  -- in whichever order
  chosen_last : (a b c d i j l m : ℕ) → Chosen a b c d → Held height s.points (point i) (point j) (point l) (point m) →
      q (point i) (point j) (point l) (point m) ≡ true
  chosen_last a b c d i j l m t k = elim k [
    | inl G ↦ chosen_all a b c d i j l m t G
    | inr G ↦ sq.middle (point i) (point j) (point l) (point m) ∙ chosen_all a b c d i l j m t G
  ]

  -- of four points
  chosen_from : (a b c d : ℕ) → cell s (point a) (point b) (point c) (point d) ≡ true →
      q (point a) (point b) (point c) (point d) ≡ true → (i j l m : ℕ) → cell s (point i) (point j) (point l) (point m)
      ≡ true → q (point i) (point j) (point l) (point m) ≡ true
  chosen_from a b c d e g i j l m k = elim (test_from s (point a) (point b) (point c) (point d) e) [
    | inl F ↦ chosen_last a b c d i j l m (F, g) (test_from s (point i) (point j) (point l) (point m) k)
    | inr F ↦ chosen_last a c b d i j l m (F, sym (sq.middle (point a) (point b) (point c) (point d)) ∙ g)
        (test_from s (point i) (point j) (point l) (point m) k)
  ]

-- Full cells closed across facets are all Full cells
pub test_closed : (s : PointSet) → ClosedFull (cell s)
test_closed s q sq (point a) (point b) (point c) (point d) f e g closed (point i) (point j) (point l) (point m) k r =
    chosen_from s q sq closed a b c d e g i j l m r
test_closed s q sq far a2 a3 a4 f e g closed b1 b2 b3 b4 k r = absurd (f.finite1 refl)
test_closed s q sq (point a) far a3 a4 f e g closed b1 b2 b3 b4 k r = absurd (f.finite2 refl)
test_closed s q sq (point a) (point b) far a4 f e g closed b1 b2 b3 b4 k r = absurd (f.finite3 refl)
test_closed s q sq (point a) (point b) (point c) far f e g closed b1 b2 b3 b4 k r = absurd (f.finite4 refl)
test_closed s q sq (point a) (point b) (point c) (point d) f e g closed far b2 b3 b4 k r = absurd (k.finite1 refl)
test_closed s q sq (point a) (point b) (point c) (point d) f e g closed (point i) far b3 b4 k r =
    absurd (k.finite2 refl)
test_closed s q sq (point a) (point b) (point c) (point d) f e g closed (point i) (point j) far b4 k r =
    absurd (k.finite3 refl)
test_closed s q sq (point a) (point b) (point c) (point d) f e g closed (point i) (point j) (point l) far k r =
    absurd (k.finite4 refl)

-- ---- around one point

module _ (s : PointSet) (e : ℕ) (q : Vertex → Vertex → Vertex → Bool) (sq : Symmetric3 q)
    (closed : (t1 t2 x y : Vertex) → AreFinite t1 t2 x (point e) → y ≢ far → cell s t1 t2 x (point e) ≡ true →
    q t1 t2 x ≡ true → cell s t1 t2 y (point e) ≡ true → q t1 t2 y ≡ true) where
  -- three points pass
  abbrev On3 : ℕ → ℕ → ℕ → Type 0
  On3 a b c = q (point a) (point b) (point c) ≡ true

  -- one of four points is e, and the other three pass
  abbrev Around : ℕ → ℕ → ℕ → ℕ → Type 0
  Around a b c d = ((a ≡ e) × On3 b c d) ⊎ (((b ≡ e) × On3 a c d) ⊎ (((c ≡ e) × On3 a b d) ⊎ ((d ≡ e) × On3 a b c)))

  -- the Full cells of which this holds
  abbrev Starred : ℕ → ℕ → ℕ → ℕ → Type 0
  Starred a b c d = Full height s.points a b c d × Around a b c d

  -- the first two exchanged
  first3 : (a b c : ℕ) → On3 a b c → On3 b a c
  first3 a b c k = sym (sq.first (point a) (point b) (point c)) ∙ k

  -- the last two exchanged
  last3 : (a b c : ℕ) → On3 a b c → On3 a c b
  last3 a b c k = sym (sq.last (point a) (point b) (point c)) ∙ k

  -- the first three turned
  around_left : (a b c d : ℕ) → Around a b c d → Around b c a d
  around_left a b c d m = elim m [
    | inl k ↦ inr (inr (inl (k.0, k.1)))
    | inr r ↦ elim r [
      | inl k ↦ inl (k.0, first3 a c d k.1)
      | inr u ↦ elim u [
        | inl k ↦ inr (inl (k.0, first3 a b d k.1))
        | inr k ↦ inr (inr (inr (k.0, last3 b a c (first3 a b c k.1))))
      ]
    ]
  ]

  -- the last three turned
  around_right : (a b c d : ℕ) → Around a b c d → Around a c d b
  around_right a b c d m = elim m [
    | inl k ↦ inl (k.0, last3 c b d (first3 b c d k.1))
    | inr r ↦ elim r [
      | inl k ↦ inr (inr (inr (k.0, k.1)))
      | inr u ↦ elim u [ inl k ↦ inr (inl (k.0, last3 a b d k.1)) | inr k ↦ inr (inr (inl (k.0, last3 a b c k.1))) ]
    ]
  ]

  -- they are a set of cells
  starred_set : IsSetOf height s.points Starred
  starred_set = record {
    decide = λ a b c d. both (decide_full height s.points a b c d)
        (either (both (ℕ_discrete a e) (is_true (q (point b) (point c) (point d))))
        (either (both (ℕ_discrete b e) (is_true (q (point a) (point c) (point d))))
        (either (both (ℕ_discrete c e) (is_true (q (point a) (point b) (point d))))
        (both (ℕ_discrete d e) (is_true (q (point a) (point b) (point c)))))));
    left = λ a b c d t. (full_left t.0, around_left a b c d t.1);
    right = λ a b c d t. (full_right t.0, around_right a b c d t.1);
    full = λ a b c d t. t.0;
  }

  -- a cell with its last point written otherwise
  at_e : (a b c d : ℕ) → d ≡ e → cell s (point a) (point b) (point c) (point d) ≡ true →
      cell s (point a) (point b) (point c) (point e) ≡ true
  at_e a b c d p k = subst (λ x. cell s (point a) (point b) (point c) (point x) ≡ true) p k

  -- across a facet with e
  move : (a b d f c : ℕ) → c ≡ e → cell s (point a) (point b) (point d) (point c) ≡ true → On3 a b d →
      cell s (point a) (point b) (point f) (point c) ≡ true → On3 a b f
  move a b d f c p k g l =
      closed (point a) (point b) (point d) (point f) (all_finite a b d e) (point_finite f) (at_e a b d c p k) g
      (at_e a b f c p l)

  -- the first vertex brought to the end
  rotate1 : (a b c d : ℕ) → cell s (point a) (point b) (point c) (point d) ≡ true →
      cell s (point b) (point c) (point d) (point a) ≡ true
  rotate1 a b c d k =
      (let z = test_symmetric s in sym (z.first (point a) (point b) (point c) (point d)
      ∙ z.middle (point b) (point a) (point c) (point d) ∙ z.last (point b) (point c) (point a) (point d)) ∙ k)

  -- the second
  rotate2 : (a b c d : ℕ) → cell s (point a) (point b) (point c) (point d) ≡ true →
      cell s (point a) (point c) (point d) (point b) ≡ true
  rotate2 a b c d k =
      (let z = test_symmetric s in sym (z.middle (point a) (point b) (point c) (point d)
      ∙ z.last (point a) (point c) (point b) (point d)) ∙ k)

  -- the third
  rotate3 : (a b c d : ℕ) → cell s (point a) (point b) (point c) (point d) ≡ true →
      cell s (point a) (point b) (point d) (point c) ≡ true
  rotate3 a b c d k = (let z = test_symmetric s in sym (z.last (point a) (point b) (point c) (point d)) ∙ k)

  -- across any facet with e
  step : (a b c d f : ℕ) → cell s (point a) (point b) (point c) (point d) ≡ true →
      cell s (point a) (point b) (point c) (point f) ≡ true → ¬ (IsIn d (e ∷ [])) → Around a b c d → Around a c b f
  step a b c d f k l o m = elim m [
    | inl g ↦ inl (g.0, first3 b c f (move b c d f a g.0 (rotate1 a b c d k) g.1 (rotate1 a b c f l)))
    | inr r ↦ elim r [
      | inl g ↦ inr (inr (inl (g.0, move a c d f b g.0 (rotate2 a b c d k) g.1 (rotate2 a b c f l))))
      | inr u ↦ elim u [
        | inl g ↦ inr (inl (g.0, move a b d f c g.0 (rotate3 a b c d k) g.1 (rotate3 a b c f l)))
        | inr g ↦ absurd (o (inl (sym g.0)))
      ]
    ]
  ]

  -- closed across the facets with e
  starred_closed : IsClosed height s.points Starred (e ∷ [])
  starred_closed = record {
    across = λ a b c d f t o F. (
      F,
      step a b c d f
          (test_true s (point a) (point b) (point c) (point d) (inl t.0))
          (test_true s (point a) (point b) (point c) (point f) (inr F)) o t.1,
    );
  }

  -- e is the last vertex
  only_last : (i j l : ℕ) → Full height s.points i j l e → Around i j l e → On3 i j l
  only_last i j l F m =
      let k = test_true s (point i) (point j) (point l) (point e) (inl F) in
      elim m [
        | inl g ↦ absurd (no_twice s.points (point j) (point l) (point e)
            (test_from s (point j) (point l) (point e) (point e) (at_e j l e i g.0 (rotate1 i j l e k))))
        | inr r ↦ elim r [
          | inl g ↦ absurd (no_twice s.points (point i) (point l) (point e)
              (test_from s (point i) (point l) (point e) (point e) (at_e i l e j g.0 (rotate2 i j l e k))))
          | inr u ↦ elim u [
            | inl g ↦ absurd (no_twice s.points (point i) (point j) (point e)
                (test_from s (point i) (point j) (point e) (point e) (at_e i j e l g.0 (rotate3 i j l e k))))
            | inr g ↦ g.1
          ]
        ]
      ]

  -- so they are all Full cells at e
  starred_all : (a b c d i j l : ℕ) → Starred a b c d → Full height s.points i j l e → On3 i j l
  starred_all a b c d i j l t F =
      only_last i j l F (star (no_ties s.points (keys_of s)) starred_set starred_closed t F
      (record { one_of = last_of })).1
    where
      -- e is one of the four
      last_of : (x : ℕ) → IsIn x (e ∷ []) → OneOf x i j l e
      last_of x m = elim m [ inl p ↦ inr (inr (inr (inl p))) | inr none ↦ absurd none ]

  -- in whichever order
  starred_last : (a b c i j l : ℕ) → Starred a b c e → Held height s.points (point i) (point j) (point l) (point e) →
      On3 i j l
  starred_last a b c i j l t k = elim k [
    | inl G ↦ starred_all a b c e i j l t G
    | inr G ↦ last3 i l j (starred_all a b c e i l j t G)
  ]

  -- of three points and e
  starred_from : (a b c : ℕ) → cell s (point a) (point b) (point c) (point e) ≡ true → On3 a b c → (i j l : ℕ) →
      cell s (point i) (point j) (point l) (point e) ≡ true → On3 i j l
  starred_from a b c k g i j l r = elim (test_from s (point a) (point b) (point c) (point e) k) [
    | inl F ↦ starred_last a b c i j l (F, inr (inr (inr (refl, g))))
        (test_from s (point i) (point j) (point l) (point e) r)
    | inr F ↦ starred_last a c b i j l (F, inr (inr (inr (refl, last3 a b c g))))
        (test_from s (point i) (point j) (point l) (point e) r)
  ]

-- Full cells at a point, closed across the facets with it, are all Full cells at it
pub test_star : (s : PointSet) (v : Vertex) → has_as_point s v ≡ true → StarFull (cell s) v
test_star s (point e) m q sq (point a) (point b) (point c) f k g closed (point i) (point j) (point l) h r =
    starred_from s e q sq closed a b c k g i j l r
test_star s (point e) m q sq far a2 a3 f k g closed b1 b2 b3 h r = absurd (f.finite1 refl)
test_star s (point e) m q sq (point a) far a3 f k g closed b1 b2 b3 h r = absurd (f.finite2 refl)
test_star s (point e) m q sq (point a) (point b) far f k g closed b1 b2 b3 h r = absurd (f.finite3 refl)
test_star s (point e) m q sq (point a) (point b) (point c) f k g closed far b2 b3 h r = absurd (h.finite1 refl)
test_star s (point e) m q sq (point a) (point b) (point c) f k g closed (point i) far b3 h r = absurd (h.finite2 refl)
test_star s (point e) m q sq (point a) (point b) (point c) f k g closed (point i) (point j) far h r =
    absurd (h.finite3 refl)
test_star s far m q sq a1 a2 a3 f k g closed b1 b2 b3 h r = cc

-- all facts
pub base : Base PointSet has_as_point solid cell vertices set_with minus
base = record {
  extensional = extensional;
  has_plus = has_plus;
  has_minus = has_minus;
  finite = finite;
  complex = test_complex;
  point = test_point;
  smaller = test_smaller;
  union = test_union;
  closed_full = test_closed;
  star_full = test_star;
  corner = test_corner;
  full_solid = test_full_solid;
  solid_more = test_solid_more;
}
