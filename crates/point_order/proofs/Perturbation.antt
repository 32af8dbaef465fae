-- The perturbation in the lifted determinant: a part below one unit of the in-sphere polynomial, so that it shows only
-- where that polynomial is 0, and there by the greatest point whose coefficient is not 0.
use Rattle.std.proofs.Common.{◌≡◌, ℕ, ◌*◌, ◌^◌, ◌<◌, ◌≤◌, ◌⊎◌, arith, sym, subst, ap, ◌∙◌, ℤ, pos, ◌+ℤ◌, ◌*ℤ◌, inl, inr}
use Rattle.std.proofs.lemmas.Int.{ints}
use Rattle.std.proofs.Math.Nat.{one-le-pow}
use Rattle.std.proofs.Math.IntN.{neg_ℤ}
use Rattle.std.specs.Int.RustNames.{unsigned_abs}
use Rattle.whole_ring.specs.Signs.{HasSignOf}
use Rattle.point_order.specs.Orientation.{orientation}
use Rattle.point_order.specs.Heights.{base, top, base_is, top_is, height, lifted, square_of, sphere_polynomial, out}
use Rattle.point_order.proofs.Sizes.{orientation_within}
use Rattle.point_order.proofs.Leading.{lead_sign, low_term, no_term, five_low, four_low, split_heights}

-- ---- the base is large enough

-- the base is positive
pub base_pos : 0 < base
base_pos = omega (arith, base_is)

-- and so is a power of it
pub power_pos : (k : ℕ) → 0 < base ^ k
power_pos k = omega (arith, one-le-pow k base base_pos)

-- ten times a coefficient is at most the base
tenfold : (a b c d : ℕ) → unsigned_abs (orientation a b c d) * 10 ≤ base
tenfold a b c d = omega (arith, base_is, (orientation_within a b c d).size)

-- and ten times a negated one
tenfold_neg : (a b c d : ℕ) → unsigned_abs (neg_ℤ (orientation a b c d)) * 10 ≤ base
tenfold_neg a b c d = omega (arith, ints, tenfold a b c d)

-- ---- the two parts of `out`

-- what the perturbation adds to the determinant
pub added : ℕ → ℕ → ℕ → ℕ → ℕ → ℤ
added a b c d e =
    orientation a b c d *ℤ pos (base ^ e)
    +ℤ neg_ℤ (orientation a b c e) *ℤ pos (base ^ d)
    +ℤ orientation a b d e *ℤ pos (base ^ c)
    +ℤ neg_ℤ (orientation a c d e) *ℤ pos (base ^ b)
    +ℤ orientation b c d e *ℤ pos (base ^ a)

-- the determinant at the perturbed heights is the in-sphere polynomial times a great number, and what is added
pub out_parts : (a b c d e : ℕ) → out a b c d e ≡ sphere_polynomial a b c d e *ℤ pos (base ^ top) +ℤ added a b c d e
unfolding out sphere_polynomial lifted height added
out_parts a b c d e =
    split_heights (base ^ top) (orientation a b c d) (orientation a b c e) (orientation a b d e) (orientation a c d e)
    (orientation b c d e) (square_of e) (square_of d) (square_of c) (square_of b) (square_of a) (base ^ e)
    (base ^ d) (base ^ c) (base ^ b) (base ^ a)

-- what is added is less than the great number
added_small : (a b c d e : ℕ) → a < 2 ^ 42 → b < 2 ^ 42 → c < 2 ^ 42 → d < 2 ^ 42 → e < 2 ^ 42 →
    unsigned_abs (added a b c d e) < base ^ top
unfolding added
added_small a b c d e ha hb hc hd he =
    five_low
    (orientation a b c d *ℤ pos (base ^ e))
    (neg_ℤ (orientation a b c e) *ℤ pos (base ^ d))
    (orientation a b d e *ℤ pos (base ^ c))
    (neg_ℤ (orientation a c d e) *ℤ pos (base ^ b))
    (orientation b c d e *ℤ pos (base ^ a))
    (base ^ top)
    (power_pos top)
    (low_term base _ e top base_pos (tenfold a b c d) (omega (arith, top_is)))
    (low_term base _ d top base_pos (tenfold_neg a b c e) (omega (arith, top_is)))
    (low_term base _ c top base_pos (tenfold a b d e) (omega (arith, top_is)))
    (low_term base _ b top base_pos (tenfold_neg a c d e) (omega (arith, top_is)))
    (low_term base _ a top base_pos (tenfold b c d e) (omega (arith, top_is)))

-- so where the in-sphere polynomial is not 0, the determinant has its sign
pub out_sign : (a b c d e : ℕ) → a < 2 ^ 42 → b < 2 ^ 42 → c < 2 ^ 42 → d < 2 ^ 42 → e < 2 ^ 42 →
    HasSignOf (sphere_polynomial a b c d e) (out a b c d e)
out_sign a b c d e ha hb hc hd he =
    let s = sphere_polynomial a b c d e in
    subst (HasSignOf s) (sym (out_parts a b c d e)) (lead_sign s (base ^ top) (added a b c d e)
    (added_small a b c d e ha hb hc hd he))

-- ---- ties

-- the term of point k counts for nothing beside that of point g: its coefficient is 0, or g is greater
pub record Yields (c : ℤ) (k g : ℕ) : Type 0 where
  pub either : (c ≡ pos 0) ⊎ (k < g)

-- a term that yields to g is at most a tenth of the power of g
yields_low : (c : ℤ) (k g : ℕ) → unsigned_abs c * 10 ≤ base → Yields c k g →
    unsigned_abs (c *ℤ pos (base ^ k)) * 10 ≤ base ^ g
yields_low c k g h y =
    elim y.either [ inl e ↦ no_term base c k g e | inr l ↦ low_term base c k g base_pos h l ]

-- a negated coefficient yields where the coefficient does
yields_neg : (c : ℤ) (k g : ℕ) → Yields c k g → Yields (neg_ℤ c) k g
yields_neg c k g y = record { either = elim y.either [ inl e ↦ inl (ap neg_ℤ e) | inr l ↦ inr l ] }

-- a term to which four others yield gives their sum its sign
lead : (c p q r s : ℤ) (g i j k l : ℕ) → unsigned_abs p * 10 ≤ base → unsigned_abs q * 10 ≤ base →
    unsigned_abs r * 10 ≤ base → unsigned_abs s * 10 ≤ base → Yields p i g → Yields q j g → Yields r k g →
    Yields s l g → HasSignOf c (c *ℤ pos (base ^ g) +ℤ (p *ℤ pos (base ^ i) +ℤ q *ℤ pos (base ^ j)
    +ℤ r *ℤ pos (base ^ k) +ℤ s *ℤ pos (base ^ l)))
lead c p q r s g i j k l hp hq hr hs yp yq yr ys =
    lead_sign c (base ^ g) _ (four_low (p *ℤ pos (base ^ i)) (q *ℤ pos (base ^ j)) (r *ℤ pos (base ^ k))
    (s *ℤ pos (base ^ l)) (base ^ g) (power_pos g) (yields_low p i g hp yp) (yields_low q j g hq yq)
    (yields_low r k g hr yr) (yields_low s l g hs ys))

-- the first of five terms, before the others
first : (t u v w x : ℤ) → t +ℤ u +ℤ v +ℤ w +ℤ x ≡ t +ℤ (u +ℤ v +ℤ w +ℤ x)
first t u v w x = omega (arith, ints)

-- the second
second : (t u v w x : ℤ) → t +ℤ u +ℤ v +ℤ w +ℤ x ≡ u +ℤ (t +ℤ v +ℤ w +ℤ x)
second t u v w x = omega (arith, ints)

-- the third
third : (t u v w x : ℤ) → t +ℤ u +ℤ v +ℤ w +ℤ x ≡ v +ℤ (t +ℤ u +ℤ w +ℤ x)
third t u v w x = omega (arith, ints)

-- the fourth
fourth : (t u v w x : ℤ) → t +ℤ u +ℤ v +ℤ w +ℤ x ≡ w +ℤ (t +ℤ u +ℤ v +ℤ x)
fourth t u v w x = omega (arith, ints)

-- the fifth
fifth : (t u v w x : ℤ) → t +ℤ u +ℤ v +ℤ w +ℤ x ≡ x +ℤ (t +ℤ u +ℤ v +ℤ w)
fifth t u v w x = omega (arith, ints)

-- at a tie only what is added is left
tie : (a b c d e : ℕ) → sphere_polynomial a b c d e ≡ pos 0 → out a b c d e ≡ added a b c d e
tie a b c d e z =
    out_parts a b c d e ∙ ap (λ (v : ℤ). v *ℤ pos (base ^ top) +ℤ added a b c d e) z ∙ omega (arith, ints)

-- at a tie the other four yield to the point e
pub tie_e : (a b c d e : ℕ) → sphere_polynomial a b c d e ≡ pos 0 → Yields (orientation a b c e) d e →
    Yields (orientation a b d e) c e → Yields (orientation a c d e) b e → Yields (orientation b c d e) a e →
    HasSignOf (orientation a b c d) (out a b c d e)
unfolding added
tie_e a b c d e z yd yc yb ya =
    subst
    (HasSignOf (orientation a b c d))
    (sym (tie a b c d e z ∙ first (orientation a b c d *ℤ pos (base ^ e))
    (neg_ℤ (orientation a b c e) *ℤ pos (base ^ d)) (orientation a b d e *ℤ pos (base ^ c))
    (neg_ℤ (orientation a c d e) *ℤ pos (base ^ b)) (orientation b c d e *ℤ pos (base ^ a))))
    (lead (orientation a b c d) (neg_ℤ (orientation a b c e)) (orientation a b d e) (neg_ℤ (orientation a c d e))
    (orientation b c d e) e d c b a (tenfold_neg a b c e) (tenfold a b d e) (tenfold_neg a c d e) (tenfold b c d e)
    (yields_neg _ _ _ yd) yc (yields_neg _ _ _ yb) ya)

-- they yield to d
pub tie_d : (a b c d e : ℕ) → sphere_polynomial a b c d e ≡ pos 0 → Yields (orientation a b c d) e d →
    Yields (orientation a b d e) c d → Yields (orientation a c d e) b d → Yields (orientation b c d e) a d →
    HasSignOf (neg_ℤ (orientation a b c e)) (out a b c d e)
unfolding added
tie_d a b c d e z ye yc yb ya =
    subst
    (HasSignOf (neg_ℤ (orientation a b c e)))
    (sym (tie a b c d e z ∙ second (orientation a b c d *ℤ pos (base ^ e))
    (neg_ℤ (orientation a b c e) *ℤ pos (base ^ d)) (orientation a b d e *ℤ pos (base ^ c))
    (neg_ℤ (orientation a c d e) *ℤ pos (base ^ b)) (orientation b c d e *ℤ pos (base ^ a))))
    (lead (neg_ℤ (orientation a b c e)) (orientation a b c d) (orientation a b d e) (neg_ℤ (orientation a c d e))
    (orientation b c d e) d e c b a (tenfold a b c d) (tenfold a b d e) (tenfold_neg a c d e) (tenfold b c d e) ye yc
    (yields_neg _ _ _ yb) ya)

-- they yield to c
pub tie_c : (a b c d e : ℕ) → sphere_polynomial a b c d e ≡ pos 0 → Yields (orientation a b c d) e c →
    Yields (orientation a b c e) d c → Yields (orientation a c d e) b c → Yields (orientation b c d e) a c →
    HasSignOf (orientation a b d e) (out a b c d e)
unfolding added
tie_c a b c d e z ye yd yb ya =
    subst
    (HasSignOf (orientation a b d e))
    (sym (tie a b c d e z ∙ third (orientation a b c d *ℤ pos (base ^ e))
    (neg_ℤ (orientation a b c e) *ℤ pos (base ^ d)) (orientation a b d e *ℤ pos (base ^ c))
    (neg_ℤ (orientation a c d e) *ℤ pos (base ^ b)) (orientation b c d e *ℤ pos (base ^ a))))
    (lead (orientation a b d e) (orientation a b c d) (neg_ℤ (orientation a b c e)) (neg_ℤ (orientation a c d e))
    (orientation b c d e) c e d b a (tenfold a b c d) (tenfold_neg a b c e) (tenfold_neg a c d e) (tenfold b c d e) ye
    (yields_neg _ _ _ yd) (yields_neg _ _ _ yb) ya)

-- they yield to b
pub tie_b : (a b c d e : ℕ) → sphere_polynomial a b c d e ≡ pos 0 → Yields (orientation a b c d) e b →
    Yields (orientation a b c e) d b → Yields (orientation a b d e) c b → Yields (orientation b c d e) a b →
    HasSignOf (neg_ℤ (orientation a c d e)) (out a b c d e)
unfolding added
tie_b a b c d e z ye yd yc ya =
    subst
    (HasSignOf (neg_ℤ (orientation a c d e)))
    (sym (tie a b c d e z ∙ fourth (orientation a b c d *ℤ pos (base ^ e))
    (neg_ℤ (orientation a b c e) *ℤ pos (base ^ d)) (orientation a b d e *ℤ pos (base ^ c))
    (neg_ℤ (orientation a c d e) *ℤ pos (base ^ b)) (orientation b c d e *ℤ pos (base ^ a))))
    (lead (neg_ℤ (orientation a c d e)) (orientation a b c d) (neg_ℤ (orientation a b c e)) (orientation a b d e)
    (orientation b c d e) b e d c a (tenfold a b c d) (tenfold_neg a b c e) (tenfold a b d e) (tenfold b c d e) ye
    (yields_neg _ _ _ yd) yc ya)

-- they yield to a
pub tie_a : (a b c d e : ℕ) → sphere_polynomial a b c d e ≡ pos 0 → Yields (orientation a b c d) e a →
    Yields (orientation a b c e) d a → Yields (orientation a b d e) c a → Yields (orientation a c d e) b a →
    HasSignOf (orientation b c d e) (out a b c d e)
unfolding added
tie_a a b c d e z ye yd yc yb =
    subst
    (HasSignOf (orientation b c d e))
    (sym (tie a b c d e z ∙ fifth (orientation a b c d *ℤ pos (base ^ e))
    (neg_ℤ (orientation a b c e) *ℤ pos (base ^ d)) (orientation a b d e *ℤ pos (base ^ c))
    (neg_ℤ (orientation a c d e) *ℤ pos (base ^ b)) (orientation b c d e *ℤ pos (base ^ a))))
    (lead (orientation b c d e) (orientation a b c d) (neg_ℤ (orientation a b c e)) (orientation a b d e)
    (neg_ℤ (orientation a c d e)) a e d c b (tenfold a b c d) (tenfold_neg a b c e) (tenfold a b d e)
    (tenfold_neg a c d e) ye (yields_neg _ _ _ yd) yc (yields_neg _ _ _ yb))
