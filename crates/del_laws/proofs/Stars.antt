-- The star law: a set of Full cells that have some points, closed across the facets that keep these, holds all Full
-- cells that have them.
--
use Rattle.std.specs.Prelude.{ℕ, ℤ, pos, ◌+ℤ◌, ◌*ℤ◌, neg_ℤ, ◌≡◌, ◌≤ℤ◌, ◌<ℤ◌, List, [], ◌∷◌}
use Rattle.std.proofs.Common.{arith, refl, inl, inr, subst, sym, ◌∙◌, ap}
use Rattle.std.proofs.lemmas.Int.{ints}
use Rattle.std.proofs.Math.IntN.{*ℤ-zero}
use Rattle.whole_ring.proofs.Cited.{mul_nonneg, mul_pos}
use Rattle.list_laws.proofs.Cited.{both, is_in, not_zero}
use Rattle.point_order.specs.Orientation.{orientation}
use Rattle.point_order.specs.Heights.{lifted}
use Rattle.point_order.specs.Sets.{IsIn}
use Rattle.point_order.proofs.Cited.{last_first, last_second, last_third, swap_last}
use Rattle.del_laws.specs.Cells.{Full, NoTies, OneOf, Four}
use Rattle.del_laws.proofs.Identities.{orientation_same12, orientation_same13, orientation_same23, lifted_carried_of}
use Rattle.del_laws.proofs.Lists.{of_four}
use Rattle.del_laws.proofs.CellFacts.{full_a, full_b, full_c, full_d, full_point, full_turned, full_empty}
use Rattle.del_laws.proofs.Regions.{IsSetOf, Closest, closest_left, closest_right, closest}
use Rattle.del_laws.proofs.Walks.{IsClosed, weight, strict, on}

-- the four have the points of k
pub record Holds (k : List ℕ) (a b c d : ℕ) : Type 0 where
  pub one_of : (x : ℕ) → IsIn x k → OneOf x a b c d

-- a cell of the set with the vertex g
pub record HasWith (q : ℕ → ℕ → ℕ → ℕ → Type 0) (g : ℕ) : Type 0 where
  pub f : Four
  pub at : q f.a f.b f.c f.d
  pub has : OneOf g f.a f.b f.c f.d

-- a product with 0 is not negative
zero_term : (w o : ℤ) → o ≡ pos 0 → pos 0 ≤ℤ (w *ℤ o)
zero_term w o e = let z : w *ℤ o ≡ pos 0 = ap (λ x. w *ℤ x) e ∙ *ℤ-zero w in omega (arith, ints)

-- a sum of which the first term is positive and no other negative is not 0
no_sum : (o og p of w1 w2 w3 w4 : ℤ) → o *ℤ og ≡ p *ℤ of +ℤ (w1 +ℤ w2 +ℤ w3 +ℤ w4) → og ≡ pos 0 → pos 0 <ℤ p →
    pos 0 <ℤ of → pos 0 ≤ℤ w1 → pos 0 ≤ℤ w2 → pos 0 ≤ℤ w3 → pos 0 ≤ℤ w4 → ⊥
no_sum o og p of w1 w2 w3 w4 e z h k l1 l2 l3 l4 =
    let y : o *ℤ og ≡ pos 0 = ap (λ x. o *ℤ x) z ∙ *ℤ-zero o in
    omega (arith, ints, mul_pos p of h k)

-- the cell of the set that is closest to a vertex of another cell has it
at_closest : {h : ℕ → ℕ} {s : List ℕ} {q : ℕ → ℕ → ℕ → ℕ → Type 0} {k : List ℕ} {g a b c d i j l m : ℕ} → NoTies h s →
    IsSetOf h s q → IsClosed h s q k → Full h s i j l m → Holds k i j l m → OneOf g i j l m → IsIn g s →
    Closest h q g a b c d → OneOf g a b c d
at_closest {h} {s} {q} {k} {g} {a} {b} {c} {d} {i} {j} {l} {m} n u z G r o in_s t =
    elim (is_in g (a ∷ b ∷ c ∷ d ∷ [])) [
      | yes p ↦ p
      | no p ↦ absurd (no_sum (orientation a b c d) (lifted h i j l m g) (orientation i j l m) (lifted h a b c d g)
          (orientation b d c g *ℤ lifted h i j l m a) (orientation a c d g *ℤ lifted h i j l m b)
          (orientation a d b g *ℤ lifted h i j l m c) (orientation a b c g *ℤ lifted h i j l m d)
          (lifted_carried_of h a b c d g i j l m) (on h i j l m g o) (full_turned G) (strict n F g in_s p)
          (term b d c a (closest_right u (closest_right u (closest_left u t))) (full_a F))
          (term a c d b (closest_right u t) (full_b F))
          (term a d b c (closest_right u (closest_right u t)) (full_c F))
          (term a b c d t (full_d F)))
    ]
  where
    -- the closest cell
    F : Full h s a b c d
    F = u.full a b c d t.at

    -- each term of the weighted sum is not negative
    term : (a b c d : ℕ) → Closest h q g a b c d → IsIn d s → pos 0 ≤ℤ (orientation a b c g *ℤ lifted h i j l m d)
    term a b c d t x = elim (is_in d k) [
      | yes y ↦ zero_term (orientation a b c g) (lifted h i j l m d) (on h i j l m d (r.one_of d y))
      | no y ↦ mul_nonneg (orientation a b c g) (lifted h i j l m d) (weight n u z t in_s y) (full_empty G d x)
    ]

-- so each vertex of a cell that has the points is in some cell of the set
pub step : {h : ℕ → ℕ} {s : List ℕ} {q : ℕ → ℕ → ℕ → ℕ → Type 0} {k : List ℕ} {g a b c d i j l m : ℕ} → NoTies h s →
    IsSetOf h s q → IsClosed h s q k → Full h s i j l m → Holds k i j l m → OneOf g i j l m → q a b c d → HasWith q g
step {h} {s} {q} {k} {g} {a} {b} {c} {d} n u z G r o t =
    let v = closest u g a b c d t in
    record { f = v.0; at = v.1.at; has = at_closest n u z G r o (full_point G o) v.1 }

-- the cells of q at g
abbrev pub AtPoint : (ℕ → ℕ → ℕ → ℕ → Type 0) → ℕ → ℕ → ℕ → ℕ → ℕ → Type 0
AtPoint q g a b c d = q a b c d × OneOf g a b c d

-- one of four, the first three turned
pub one_left : (x a b c d : ℕ) → OneOf x a b c d → OneOf x b c a d
one_left x a b c d m = elim m [
  | inl p ↦ inr (inr (inl p))
  | inr r ↦ elim r [ inl p ↦ inl p | inr u ↦ elim u [ inl p ↦ inr (inl p) | inr v ↦ inr (inr (inr v)) ] ]
]

-- one of four, the last three turned
pub one_right : (x a b c d : ℕ) → OneOf x a b c d → OneOf x a c d b
one_right x a b c d m = elim m [
  | inl p ↦ inl p
  | inr r ↦ elim r [
    | inl p ↦ inr (inr (inr (inl p)))
    | inr u ↦ elim u [ inl p ↦ inr (inl p) | inr v ↦ elim v [ inl p ↦ inr (inr (inl p)) | inr w ↦ absurd w ] ]
  ]
]

-- they are a set of cells
pub set_at : {h : ℕ → ℕ} {s : List ℕ} {q : ℕ → ℕ → ℕ → ℕ → Type 0} → IsSetOf h s q → (g : ℕ) → IsSetOf h s (AtPoint q g)
set_at u g = record {
  decide = λ a b c d. both (u.decide a b c d) (is_in g (a ∷ b ∷ c ∷ d ∷ []));
  left = λ a b c d t. (u.left a b c d t.0, one_left g a b c d t.1);
  right = λ a b c d t. (u.right a b c d t.0, one_right g a b c d t.1);
  full = λ a b c d t. u.full a b c d t.0;
}

-- closed across the facets that keep g too
pub closed_at : {h : ℕ → ℕ} {s : List ℕ} {q : ℕ → ℕ → ℕ → ℕ → Type 0} {k : List ℕ} → IsClosed h s q k → (g : ℕ) →
    IsClosed h s (AtPoint q g) (g ∷ k)
closed_at z g = record {
  across = λ a b c d f t o F. (
    z.across a b c d f t.0 (λ m. o (inr m)) F,
    elim t.1 [
      | inl p ↦ inl p
      | inr r ↦ elim r [
        | inl p ↦ inr (inr (inl p))
        | inr u ↦ elim u [
          | inl p ↦ inr (inl p)
          | inr v ↦ elim v [ inl p ↦ absurd (o (inl (sym p))) | inr none ↦ absurd none ]
        ]
      ]
    ],
  );
}

-- one more point that the four have
more : {k : List ℕ} {i j l m : ℕ} (g : ℕ) → Holds k i j l m → OneOf g i j l m → Holds (g ∷ k) i j l m
more {k} {i} {j} {l} {m} g r o = record {
  one_of = λ x y. elim y [
    | inl p ↦ subst (λ v. OneOf v i j l m) p o
    | inr t ↦ r.one_of x t
  ];
}

-- a set of fours with each in all its even orders
pub record IsEven (q : ℕ → ℕ → ℕ → ℕ → Type 0) : Type 0 where
  pub left : (a b c d : ℕ) → q a b c d → q b c a d
  pub right : (a b c d : ℕ) → q a b c d → q a c d b

-- an orientation and its opposite are not both positive
two_ways : (y z : ℤ) → pos 0 <ℤ y → pos 0 <ℤ z → z ≡ neg_ℤ y → ⊥
two_ways y z l k e = omega (arith, ints)

-- nothing follows from a flat orientation that is positive
flat : {A : Type 0} (z : ℤ) → z ≡ pos 0 → pos 0 <ℤ z → A
flat z e l = absurd (not_zero z l e)

module _ (q : ℕ → ℕ → ℕ → ℕ → Type 0) (turned : (a b c d : ℕ) → q a b c d → pos 0 <ℤ orientation a b c d) (e : IsEven q)
  where
    -- the last two points in an order of the same sign
    last_two : (k l b c m n : ℕ) → q k l b c → pos 0 <ℤ orientation k l m n → OneOf m k l b c → OneOf n k l b c →
        q k l m n
    last_two k l b c m n t o om on =
        of_four (λ x. pos 0 <ℤ orientation k l x n → q k l x n) om
        (flat (orientation k l k n) (orientation_same13 k l n))
        (flat (orientation k l l n) (orientation_same23 k l n))
        (λ p. of_four (λ y. pos 0 <ℤ orientation k l b y → q k l b y) on (flat (orientation k l b k) (last_first k l b))
        (flat (orientation k l b l) (last_second k l b)) (flat (orientation k l b b) (last_third k l b)) (λ r. t) p)
        (λ p. of_four (λ y. pos 0 <ℤ orientation k l c y → q k l c y) on (flat (orientation k l c k) (last_first k l c))
        (flat (orientation k l c l) (last_second k l c)) (λ r. absurd
        (two_ways (orientation k l b c) (orientation k l c b) (turned k l b c t) r (swap_last k l b c)))
        (flat (orientation k l c c) (last_third k l c)) p)
        o

    -- the last three
    last_three : (k a b c l m n : ℕ) → q k a b c → pos 0 <ℤ orientation k l m n → OneOf l k a b c → OneOf m k a b c →
        OneOf n k a b c → q k l m n
    last_three k a b c l m n t o ol om on =
        of_four (λ x. pos 0 <ℤ orientation k x m n → q k x m n) ol
        (flat (orientation k k m n) (orientation_same12 k m n))
        (λ p. last_two k a b c m n t p om on)
        (λ p. last_two k b c a m n (e.right k a b c t) p (one_right m k a b c om) (one_right n k a b c on))
        (λ p. last_two k c a b m n (e.right k b c a (e.right k a b c t)) p
        (one_right m k b c a (one_right m k a b c om))
        (one_right n k b c a (one_right n k a b c on)))
        o

    -- the same four points in another order of the same sign
    pub same_cell : (a b c d k l m n : ℕ) → q a b c d → pos 0 <ℤ orientation k l m n → OneOf k a b c d →
        OneOf l a b c d →
        OneOf m a b c d → OneOf n a b c d → q k l m n
    same_cell a b c d k l m n t o ok ol om on =
        of_four (λ x. pos 0 <ℤ orientation x l m n → q x l m n) ok
        (λ p. last_three a b c d l m n t p ol om on)
        (λ p. last_three b c a d l m n (e.left a b c d t) p (one_left l a b c d ol) (one_left m a b c d om)
        (one_left n a b c d on))
        (λ p. last_three c a b d l m n (e.left b c a d (e.left a b c d t)) p
        (one_left l b c a d (one_left l a b c d ol))
        (one_left m b c a d (one_left m a b c d om)) (one_left n b c a d (one_left n a b c d on)))
        (λ p. last_three d a c b l m n (e.left c d a b (e.left a c d b (e.right a b c d t))) p (to_last l ol)
        (to_last m om) (to_last n on))
        o
      where
        -- the fourth point to the front
        to_last : (x : ℕ) → OneOf x a b c d → OneOf x d a c b
        to_last x i = one_left x c d a b (one_left x a c d b (one_right x a b c d i))

-- the star law
pub star : {h : ℕ → ℕ} {s : List ℕ} {q : ℕ → ℕ → ℕ → ℕ → Type 0} {k : List ℕ} {a b c d i j l m : ℕ} → NoTies h s →
    IsSetOf h s q → IsClosed h s q k → q a b c d → Full h s i j l m → Holds k i j l m → q i j l m
star {h} {s} {q} {k} {a} {b} {c} {d} {i} {j} {l} {m} n u z t G r =
    let oi : OneOf i i j l m = inl refl in
    let oj : OneOf j i j l m = inr (inl refl) in
    let ol : OneOf l i j l m = inr (inr (inl refl)) in
    let om : OneOf m i j l m = inr (inr (inr (inl refl))) in
    let t1 = step n u z G r oi t in
    let u1 = set_at u i in
    let z1 = closed_at z i in
    let r1 = more i r oi in
    let t2 = step {g = j} n u1 z1 G r1 oj (t1.at, t1.has) in
    let u2 = set_at u1 j in
    let z2 = closed_at z1 j in
    let r2 = more j r1 oj in
    let t3 = step {g = l} n u2 z2 G r2 ol (t2.at, t2.has) in
    let u3 = set_at u2 l in
    let z3 = closed_at z2 l in
    let r3 = more l r2 ol in
    let t4 = step {g = m} n u3 z3 G r3 om (t3.at, t3.has) in
    same_cell q (λ a b c d v. full_turned (u.full a b c d v)) (record { left = u.left; right = u.right }) t4.f.a t4.f.b
    t4.f.c t4.f.d i j l m t4.at.0.0.0 (full_turned G) t4.at.0.0.1 t4.at.0.1 t4.at.1 t4.has
