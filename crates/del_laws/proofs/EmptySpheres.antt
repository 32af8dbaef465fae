-- Whether the smallest sphere of an edge or a triangle is empty shows in the Full cells that have the edge or the
-- triangle.
use Rattle.std.specs.Prelude.{ℕ, ℤ, pos, neg_ℤ, ◌+ℤ◌, ◌*ℤ◌, ◌≡◌, ◌≤ℤ◌, ◌<ℤ◌, true, List, [], ◌∷◌}
use Rattle.std.proofs.Common.{arith, refl, inl, inr, subst, sym, ◌∙◌, ap}
use Rattle.std.proofs.lemmas.Int.{ints}
use Rattle.whole_ring.specs.Signs.{HasSignOf}
use Rattle.whole_ring.proofs.Cited.{mul_neg, mul_nonneg, mul_pos_neg, neg_mul, square_nonneg}
use Rattle.list_laws.proofs.Cited.{below_or_not, clash, not_below, not_zero, weak}
use Rattle.conv_laws.specs.Places.{Vector, square, normal}
use Rattle.conv_laws.specs.Spheres.{edge_power, triangle_power}
use Rattle.point_order.specs.Orientation.{orientation}
use Rattle.point_order.specs.Heights.{height, out, sphere_polynomial, square_of}
use Rattle.point_order.specs.Sets.{IsIn}
use Rattle.point_order.proofs.Cited.{last_first, last_second, out_sign, swap_middle}
use Rattle.del_laws.specs.Cells.{point, Full, Held, OneOf}
use Rattle.del_laws.specs.Keys.{AreKeys}
use Rattle.del_laws.specs.Vertices.{is_full_cell}
use Rattle.del_laws.specs.EmptySpheres.{place, IsOffEdge, IsOffTriangle, CellsAreEmpty, EdgeByCells, TriangleByCells}
use Rattle.del_laws.proofs.Identities.{orientation_same12, orientation_same13, orientation_same23, lifted_swap23}
use Rattle.del_laws.proofs.Identities.{edge_power_of, triangle_power_of}
use Rattle.del_laws.proofs.CellFacts.{full_a, full_b, full_c, full_d, full_turned, full_empty, open_bounds}
use Rattle.del_laws.proofs.Orders.{full_right}
use Rattle.del_laws.proofs.Across.{across_full}
use Rattle.del_laws.proofs.Regions.{IsSetOf, Closest, closest_left, closest_right, closest}
use Rattle.del_laws.proofs.Walks.{IsClosed, weight, all_full, all_closed}
use Rattle.del_laws.proofs.Stars.{AtPoint, set_at, closed_at}
use Rattle.del_laws.proofs.Perturbed.{out_is, no_ties}
use Rattle.del_laws.proofs.Bools.{cell_true, cell_from}

-- ---- plain spheres

-- a number that has the sign of one that is not negative is not negative
not_less : (s r : ℤ) → HasSignOf s r → pos 0 ≤ℤ r → pos 0 ≤ℤ s
not_less s r h l = not_below s (λ m. clash r (h.negative m) l)

-- no point of the set is strictly inside the plain sphere of a Full cell
plain : {s : List ℕ} {a b c d : ℕ} → AreKeys s → Full height s a b c d → (e : ℕ) → IsIn e s →
    pos 0 ≤ℤ sphere_polynomial a b c d e
plain {s} {a} {b} {c} {d} k F e m =
    not_less (sphere_polynomial a b c d e) (out a b c d e) (out_sign a b c d e (k.below a (full_a F))
    (k.below b (full_b F)) (k.below c (full_c F)) (k.below d (full_d F)) (k.below e m))
    (subst (λ z. pos 0 ≤ℤ z) (sym (out_is a b c d e)) (full_empty F e m))

-- the in-sphere polynomial turns its sign
swapped : (a b c d e : ℕ) → sphere_polynomial a c b d e ≡ neg_ℤ (sphere_polynomial a b c d e)
unfolding sphere_polynomial
swapped a b c d e = lifted_swap23 square_of a b c d e

-- a product of two numbers that are not positive
both_turned : (o p q r : ℤ) → p ≡ neg_ℤ o → r ≡ neg_ℤ q → pos 0 ≤ℤ (p *ℤ r) → pos 0 ≤ℤ (o *ℤ q)
both_turned o p q r e f l =
    let i : p *ℤ r ≡ neg_ℤ o *ℤ neg_ℤ q = rw (e, f) refl in
    let j = neg_mul o (neg_ℤ q) in
    let k = mul_neg o q in
    omega (arith, ints, i, j, k, l)

-- the law CellsAreEmpty
pub cells_are_empty : CellsAreEmpty
cells_are_empty s a b c d e k t m = elim (cell_from s (point a) (point b) (point c) (point d) t) [
  | inl F ↦ mul_nonneg (orientation a b c d) (sphere_polynomial a b c d e) (weak (orientation a b c d) (full_turned F))
      (plain k F e m)
  | inr F ↦ both_turned (orientation a b c d) (orientation a c b d) (sphere_polynomial a b c d e)
      (sphere_polynomial a c b d e) (swap_middle a b c d) (swapped a b c d e)
      (mul_nonneg (orientation a c b d) (sphere_polynomial a c b d e) (weak (orientation a c b d) (full_turned F))
      (plain k F e m))
]

-- ---- edges

-- the closest cell with a and b, in an order that begins with them
record Arranged (q : ℕ → ℕ → ℕ → ℕ → Type 0) (e a b : ℕ) : Type 0 where
  c : ℕ
  d : ℕ
  near : Closest height q e a b c d

-- the Full cells with two points
abbrev With : List ℕ → ℕ → ℕ → ℕ → ℕ → ℕ → ℕ → Type 0
With s a b = AtPoint (AtPoint (λ i j k l. Full height s i j k l) a) b

-- a number by two others of weights that are not negative
carried : (q f w1 w2 c0 c1 c2 : ℤ) → q *ℤ c0 ≡ f +ℤ (w1 *ℤ c1 +ℤ w2 *ℤ c2) → pos 0 <ℤ q → pos 0 ≤ℤ f → pos 0 ≤ℤ w1 →
    pos 0 ≤ℤ w2 → pos 0 ≤ℤ c1 → pos 0 ≤ℤ c2 → pos 0 ≤ℤ c0
carried q f w1 w2 c0 c1 c2 e hq hf k1 k2 l1 l2 =
    not_below c0 (λ l. omega (arith, ints, mul_pos_neg q c0 hq l, mul_nonneg w1 c1 k1 l1, mul_nonneg w2 c2 k2 l2))

module _ (s : List ℕ) (k : AreKeys s) (a b : ℕ) (differ : ¬ (b ≡ a)) where
  -- they are a set of cells
  with_set : IsSetOf height s (With s a b)
  with_set = set_at (set_at (all_full height s) a) b

  -- closed across the facets that keep both points
  with_closed : IsClosed height s (With s a b) (b ∷ a ∷ [])
  with_closed = closed_at (closed_at (all_closed height s) a) b

  -- the closest cell in an order that begins with a: with b in the second place
  second : (e x y z : ℕ) → Closest height (With s a b) e a x y z → OneOf b a x y z → Arranged (With s a b) e a b
  second e x y z t m = elim m [
    | inl f ↦ absurd (differ (sym f))
    | inr r ↦ elim r [
      | inl f ↦ at f t
      | inr u ↦ elim u [
        | inl f ↦ at f (closest_right with_set t)
        | inr w ↦ elim w [ inl f ↦ at f (closest_right with_set (closest_right with_set t)) | inr none ↦ absurd none ]
      ]
    ]
  ]
    where
      -- b is there
      at : {u v w : ℕ} → u ≡ b → Closest height (With s a b) e a u v w → Arranged (With s a b) e a b
      at {u} {v} {w} f t = record { c = v; d = w; near = subst (λ k. Closest height (With s a b) e a k v w) f t }

  -- the closest cell in any order: with a in the first place
  first : (e w x y z : ℕ) → Closest height (With s a b) e w x y z → OneOf a w x y z → Arranged (With s a b) e a b
  first e w x y z t m = elim m [
    | inl f ↦ at f t
    | inr r ↦ elim r [
      | inl f ↦ at f (closest_left with_set t)
      | inr u ↦ elim u [
        | inl f ↦ at f (closest_left with_set (closest_left with_set t))
        | inr v ↦ elim v [
          | inl f ↦ at f (closest_left with_set (closest_left with_set (closest_right with_set t)))
          | inr none ↦ absurd none
        ]
      ]
    ]
  ]
    where
      -- a is there
      at : {u x y z : ℕ} → u ≡ a → Closest height (With s a b) e u x y z → Arranged (With s a b) e a b
      at {u} {x} {y} {z} f t =
          let k : Closest height (With s a b) e a x y z =
          subst (λ v. Closest height (With s a b) e v x y z) f t in second e x y z k k.at.1

  -- the third point of a cell is neither a nor b
  apart_c : {c d : ℕ} → Full height s a b c d → ¬ (IsIn c (b ∷ a ∷ []))
  apart_c {c} {d} F m = elim m [
    | inl f ↦ not_zero (orientation a b c d) (full_turned F) (ap (λ x. orientation a b x d) (sym f)
        ∙ orientation_same23 a b d)
    | inr r ↦ elim r [
      | inl f ↦ not_zero (orientation a b c d) (full_turned F) (ap (λ x. orientation a b x d) (sym f)
          ∙ orientation_same13 a b d)
      | inr none ↦ none
    ]
  ]

  -- nor is the fourth
  apart_d : {c d : ℕ} → Full height s a b c d → ¬ (IsIn d (b ∷ a ∷ []))
  apart_d {c} {d} F m = elim m [
    | inl f ↦ not_zero (orientation a b c d) (full_turned F) (ap (λ x. orientation a b c x) (sym f) ∙ last_second a b c)
    | inr r ↦ elim r [
      | inl f ↦ not_zero (orientation a b c d) (full_turned F) (ap (λ x. orientation a b c x) (sym f)
          ∙ last_first a b c)
      | inr none ↦ none
    ]
  ]

  -- where the points of the cells with the edge are not inside, no point of the set is
  all_off_edge : (c d : ℕ) → Full height s a b c d → ((x y : ℕ) → is_full_cell s a b x y ≡ true → IsOffEdge a b x) →
      (e : ℕ) → IsIn e s → IsOffEdge a b e
  all_off_edge c d F o e m =
      let t = closest with_set e a b c d ((F, inl refl), inr (inl refl)) in
      by_closest (first e t.0.a t.0.b t.0.c t.0.d t.1 t.1.at.0.1)
    where
      -- by the closest cell
      by_closest : Arranged (With s a b) e a b → IsOffEdge a b e
      by_closest g =
          let G = g.near.at.0.0 in
          carried (orientation a b g.c g.d) (sphere_polynomial a b g.c g.d e) (orientation a g.d b e)
          (orientation a b g.c e) (edge_power (place a) (place b) (place e))
          (edge_power (place a) (place b) (place g.c)) (edge_power (place a) (place b) (place g.d))
          (edge_power_of a b g.c g.d e) (full_turned G) (plain k G e m)
          (weight (no_ties s k) with_set with_closed (closest_right with_set (closest_right with_set g.near)) m
          (apart_c G))
          (weight (no_ties s k) with_set with_closed g.near m (apart_d G))
          (o g.c g.d (cell_true s k (point a) (point b) (point g.c) (point g.d) (inl G)))
          (o g.d g.c (cell_true s k (point a) (point b) (point g.d) (point g.c) (inr (full_right (full_right G)))))

-- the points of a Full cell are in the set, whichever its order is
third_in : {s : List ℕ} {a b c d : ℕ} → Held height s (point a) (point b) (point c) (point d) → IsIn c s
third_in H = elim H [ inl F ↦ full_c F | inr F ↦ full_b F ]

-- the fourth
fourth_in : {s : List ℕ} {a b c d : ℕ} → Held height s (point a) (point b) (point c) (point d) → IsIn d s
fourth_in H = elim H [ inl F ↦ full_d F | inr F ↦ full_d F ]

-- the two ends of an edge of a Full cell differ
ends_differ : {s : List ℕ} {a b c d : ℕ} → Full height s a b c d → ¬ (b ≡ a)
ends_differ {s} {a} {b} {c} {d} F e =
    not_zero (orientation a b c d) (full_turned F) (ap (λ x. orientation a x c d) e ∙ orientation_same12 a c d)

-- the law EdgeByCells
pub edge_by_cells : EdgeByCells
edge_by_cells s a b c d k t = (
  by_order (cell_from s (point a) (point b) (point c) (point d) t),
  λ o x y u. o x (third_in (cell_from s (point a) (point b) (point x) (point y) u)),
)
  where
    -- in an order of positive orientation
    by_order : Held height s (point a) (point b) (point c) (point d) →
        ((x y : ℕ) → is_full_cell s a b x y ≡ true → IsOffEdge a b x) → (e : ℕ) → IsIn e s → IsOffEdge a b e
    by_order H o e m = elim H [
      | inl F ↦ all_off_edge s k a b (ends_differ F) c d F o e m
      | inr F ↦ (let G : Full height s a b d c = full_right F in all_off_edge s k a b (ends_differ G) d c G o e m)
    ]

-- ---- triangles

-- the square of a vector is not negative
square_weak : (u : Vector) → pos 0 ≤ℤ square u
square_weak u = omega (arith, ints, square_nonneg u.x, square_nonneg u.y, square_nonneg u.z)

-- a number by one other of a weight that is not negative
carried_one : (q f n w c0 c1 : ℤ) → q *ℤ c0 ≡ f *ℤ n +ℤ w *ℤ c1 → pos 0 <ℤ q → pos 0 ≤ℤ f → pos 0 ≤ℤ n → pos 0 ≤ℤ w →
    pos 0 ≤ℤ c1 → pos 0 ≤ℤ c0
carried_one q f n w c0 c1 e hq hf hn hw l =
    not_below c0 (λ m. omega (arith, ints, mul_pos_neg q c0 hq m, mul_nonneg f n hf hn, mul_nonneg w c1 hw l))

-- the same with all three signs turned
carried_turned : (q f n w c0 c1 : ℤ) → q *ℤ c0 ≡ f *ℤ n +ℤ w *ℤ c1 → pos 0 <ℤ neg_ℤ q → pos 0 ≤ℤ neg_ℤ f → pos 0 ≤ℤ n →
    pos 0 ≤ℤ neg_ℤ w → pos 0 ≤ℤ c1 → pos 0 ≤ℤ c0
carried_turned q f n w c0 c1 e hq hf hn hw l =
    carried_one (neg_ℤ q) (neg_ℤ f) n (neg_ℤ w) c0 c1 (let i = neg_mul q c0 in let j = neg_mul f n in
    let o = neg_mul w c1 in omega (arith, ints, i, j, o, e)) hq hf hn hw l

module _ (s : List ℕ) (k : AreKeys s) (a b c : ℕ) where
  -- a point on the side of a Full cell of the triangle, where the opposite point is not inside
  before : (d : ℕ) → Full height s a b c d → IsOffTriangle a b c d → (e : ℕ) → IsIn e s → pos 0 ≤ℤ orientation a b c e →
      IsOffTriangle a b c e
  before d F o e m l =
      carried_one (orientation a b c d) (sphere_polynomial a b c d e) (square (normal (place a) (place b) (place c)))
      (orientation a b c e) (triangle_power (place a) (place b) (place c) (place e))
      (triangle_power (place a) (place b) (place c) (place d))
      (triangle_power_of a b c d e) (full_turned F) (plain k F e m) (square_weak (normal (place a) (place b) (place c)))
      l o

  -- the same on the other side
  behind : (d : ℕ) → Full height s a c b d → IsOffTriangle a b c d → (e : ℕ) → IsIn e s → pos 0 ≤ℤ orientation a c b e →
      IsOffTriangle a b c e
  behind d F o e m l =
      carried_turned (orientation a b c d) (sphere_polynomial a b c d e) (square (normal (place a) (place b) (place c)))
      (orientation a b c e) (triangle_power (place a) (place b) (place c) (place e))
      (triangle_power (place a) (place b) (place c) (place d))
      (triangle_power_of a b c d e)
      (subst (λ z. pos 0 <ℤ z) (swap_middle a b c d) (full_turned F))
      (subst (λ z. pos 0 ≤ℤ z) (swapped a b c d e) (plain k F e m))
      (square_weak (normal (place a) (place b) (place c)))
      (subst (λ z. pos 0 ≤ℤ z) (swap_middle a b c e) l) o

-- the orientation of the other order is not negative where this one is negative
turned_weak : (y z : ℤ) → z ≡ neg_ℤ y → y <ℤ pos 0 → pos 0 ≤ℤ z
turned_weak y z e l = omega (arith, ints)

-- where the opposite points of a triangle are not inside, no point of the set is: from a Full cell on the one side
all_off_triangle : (s : List ℕ) (k : AreKeys s) (a b c d : ℕ) → Full height s a b c d →
    ((x : ℕ) → is_full_cell s a b c x ≡ true → IsOffTriangle a b c x) → (e : ℕ) → IsIn e s → IsOffTriangle a b c e
all_off_triangle s k a b c d F o e m = elim (below_or_not (orientation a b c e)) [
  | inr l ↦ before s k a b c d F (o d (cell_true s k (point a) (point b) (point c) (point d) (inl F))) e m l
  | inl l ↦ elim (across_full F) [
    | inl r ↦ behind s k a b c r.0 r.1 (o r.0 (cell_true s k (point a) (point b) (point c) (point r.0) (inr r.1))) e m
        (turned_weak (orientation a b c e) (orientation a c b e) (swap_middle a b c e) l)
    | inr G ↦ absurd (clash (orientation a b c e) l (open_bounds G e m))
  ]
]

-- from one on the other side
all_off_behind : (s : List ℕ) (k : AreKeys s) (a b c d : ℕ) → Full height s a c b d →
    ((x : ℕ) → is_full_cell s a b c x ≡ true → IsOffTriangle a b c x) → (e : ℕ) → IsIn e s → IsOffTriangle a b c e
all_off_behind s k a b c d F o e m = elim (below_or_not (orientation a c b e)) [
  | inr l ↦ behind s k a b c d F (o d (cell_true s k (point a) (point b) (point c) (point d) (inr F))) e m l
  | inl l ↦ elim (across_full F) [
    | inl r ↦ before s k a b c r.0 r.1 (o r.0 (cell_true s k (point a) (point b) (point c) (point r.0) (inl r.1))) e m
        (turned_weak (orientation a c b e) (orientation a b c e) (swap_middle a c b e) l)
    | inr G ↦ absurd (clash (orientation a c b e) l (open_bounds G e m))
  ]
]

-- the law TriangleByCells
pub triangle_by_cells : TriangleByCells
triangle_by_cells s a b c d k t = (
  λ o e m. elim (cell_from s (point a) (point b) (point c) (point d) t) [
    | inl F ↦ all_off_triangle s k a b c d F o e m
    | inr F ↦ all_off_behind s k a b c d F o e m
  ],
  λ o x u. o x (fourth_in (cell_from s (point a) (point b) (point c) (point x) u)),
)
