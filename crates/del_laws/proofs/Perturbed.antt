-- The two facts on heights hold for the perturbed heights of points with whole coordinates.
use Rattle.std.specs.Prelude.{ℕ, ℤ, pos, ◌+ℤ◌, ◌-ℤ◌, ◌*ℤ◌, neg_ℤ, ◌≡◌, ◌≤ℤ◌, ◌<ℤ◌, List, [], ◌∷◌, ◌+◌, ◌*◌}
use Rattle.std.proofs.Common.{arith, refl, inl, inr, ap, subst, ◌∙◌}
use Rattle.std.proofs.lemmas.Int.{ints}
use Rattle.whole_ring.specs.Signs.{below, at_zero, above}
use Rattle.whole_ring.proofs.Cited.{mul_add, mul_neg, mul_neg_neg, mul_nonneg, mul_pos, sign, square_nonneg}
use Rattle.list_laws.proofs.Cited.{clash, is_in}
use Rattle.conv_laws.specs.Places.{orient, lifted as lifted_determinant, distance}
use Rattle.conv_laws.proofs.Cited.{paraboloid_is_convex}
use Rattle.point_order.specs.Coordinates.{IsKey, x_of, y_of, z_of}
use Rattle.point_order.specs.Orientation.{orientation, triple, minor, x_from, y_from, z_from}
use Rattle.point_order.specs.Heights.{height, lifted, out, sphere_polynomial, square_of}
use Rattle.point_order.specs.Sets.{AreFive}
use Rattle.point_order.proofs.Cited.{key_is, last_first, last_second, last_third, never_zero_law, out_sign, zero_false}
use Rattle.del_laws.specs.EmptySpheres.{place}
use Rattle.del_laws.specs.Cells.{NoTies, IsConvex, OneOf}
use Rattle.del_laws.specs.Keys.{AreKeys}
use Rattle.del_laws.proofs.Identities.{orientation_same12, orientation_same13, orientation_same23, weights_of}

-- ---- no ties

-- independent points, and a fifth that is none of them, are five different points
five : (a b c d e : ℕ) → ¬ (orientation a b c d ≡ pos 0) → ¬ (OneOf e a b c d) → AreFive a b c d e
five a b c d e n k = (
  λ q. n (ap (λ x. orientation x b c d) q ∙ orientation_same12 b c d),
  λ q. n (ap (λ x. orientation x b c d) q ∙ orientation_same13 c b d),
  λ q. n (ap (λ x. orientation x b c d) q ∙ last_first d b c),
  λ q. k (inl q),
  λ q. n (ap (λ x. orientation a x c d) q ∙ orientation_same23 a c d),
  λ q. n (ap (λ x. orientation a x c d) q ∙ last_second a d c),
  λ q. k (inr (inl q)),
  λ q. n (ap (λ x. orientation a b x d) q ∙ last_third a b d),
  λ q. k (inr (inr (inl q))),
  λ q. k (inr (inr (inr (inl q)))),
)

-- the determinant at the perturbed heights, by its other name
pub out_is : (a b c d e : ℕ) → out a b c d e ≡ lifted height a b c d e
unfolding out
out_is a b c d e = refl

-- the perturbed heights have no ties
pub no_ties : (s : List ℕ) → AreKeys s → NoTies height s
no_ties s k = record {
  one_of = λ a b c d e ma mb mc md me n z. elim (is_in e (a ∷ b ∷ c ∷ d ∷ [])) [
    | yes m ↦ m
    | no m ↦ absurd (never_zero_law a b c d e (k.below a ma, k.below b mb, k.below c mc, k.below d md, k.below e me)
        (five a b c d e n m) (zero_false (orientation a b c d) n) (out_is a b c d e ∙ z))
  ];
}

-- ---- convexity

-- a sum of squares that are not all 0 is positive
squares_pos : (x y z : ℤ) → (x ≡ pos 0 → y ≡ pos 0 → z ≡ pos 0 → ⊥) → pos 0 <ℤ (x *ℤ x +ℤ y *ℤ y +ℤ z *ℤ z)
squares_pos x y z n = elim (sign x) [
  | below p ↦ omega (arith, ints, mul_neg_neg x x p p, square_nonneg y, square_nonneg z)
  | above p ↦ omega (arith, ints, mul_pos x x p p, square_nonneg y, square_nonneg z)
  | at_zero ex ↦ elim (sign y) [
    | below p ↦ omega (arith, ints, square_nonneg x, mul_neg_neg y y p p, square_nonneg z)
    | above p ↦ omega (arith, ints, square_nonneg x, mul_pos y y p p, square_nonneg z)
    | at_zero ey ↦ elim (sign z) [
      | below p ↦ omega (arith, ints, square_nonneg x, square_nonneg y, mul_neg_neg z z p p)
      | above p ↦ omega (arith, ints, square_nonneg x, square_nonneg y, mul_pos z z p p)
      | at_zero ez ↦ absurd (n ex ey ez)
    ]
  ]
]

-- numbers whose difference is 0 are one
same_number : (m n : ℕ) → pos m -ℤ pos n ≡ pos 0 → m ≡ n
same_number m n e = omega (arith, ints)

-- keys with the same coordinates are one
same_key : (x y z u v w p q : ℕ) → x * 268435456 + y * 16384 + z ≡ p → u * 268435456 + v * 16384 + w ≡ q → x ≡ u →
    y ≡ v → z ≡ w → p ≡ q
same_key x y z u v w p q ep eq ex ey ez = omega arith

-- different points are apart
apart : (e a : ℕ) → IsKey e → IsKey a → ¬ (a ≡ e) → pos 0 <ℤ distance (place e) (place a)
apart e a ke ka n =
    squares_pos (pos (x_of a) -ℤ pos (x_of e)) (pos (y_of a) -ℤ pos (y_of e)) (pos (z_of a) -ℤ pos (z_of e))
    (λ ex ey ez. n (same_key (x_of a) (y_of a) (z_of a) (x_of e) (y_of e) (z_of e) a e (key_is a ka) (key_is e ke)
    (same_number (x_of a) (x_of e) ex) (same_number (y_of a) (y_of e) ey) (same_number (z_of a) (z_of e) ez)))

-- the in-sphere polynomial of points by the squares of the distances
sphere_by_distances : (a b c d e : ℕ) → sphere_polynomial a b c d e
    ≡ neg_ℤ (orientation b d c e *ℤ distance (place e) (place a) +ℤ orientation a c d e *ℤ distance (place e) (place b)
    +ℤ orientation a d b e *ℤ distance (place e) (place c) +ℤ orientation a b c e *ℤ distance (place e) (place d))
unfolding sphere_polynomial lifted lifted_determinant square_of orientation orient triple minor x_from y_from z_from
sphere_by_distances a b c d e = paraboloid_is_convex (place a) (place b) (place c) (place d) (place e)

-- a product with a positive number is at least the other factor, if that is not negative
at_least : (w d : ℤ) → pos 0 ≤ℤ w → pos 0 <ℤ d → w ≤ℤ (w *ℤ d)
at_least w d h k =
    let m : pos 0 ≤ℤ (d +ℤ neg_ℤ (pos 1)) = omega (arith, ints) in
    omega (arith, ints, mul_nonneg w (d +ℤ neg_ℤ (pos 1)) h m, mul_add w d (neg_ℤ (pos 1)), mul_neg w (pos 1))

-- so a weighted sum of squares of distances is positive
sum_pos : (o wa wb wc wd p q r t z : ℤ) → wa +ℤ wb +ℤ wc +ℤ wd ≡ o → pos 0 <ℤ o → pos 0 ≤ℤ wa → pos 0 ≤ℤ wb →
    pos 0 ≤ℤ wc → pos 0 ≤ℤ wd → pos 0 <ℤ p → pos 0 <ℤ q → pos 0 <ℤ r → pos 0 <ℤ t →
    z ≡ neg_ℤ (wa *ℤ p +ℤ wb *ℤ q +ℤ wc *ℤ r +ℤ wd *ℤ t) → z <ℤ pos 0
sum_pos o wa wb wc wd p q r t z e l ha hb hc hd hp hq hr ht f =
    omega (arith, ints, at_least wa p ha hp, at_least wb q hb hq, at_least wc r hc hr, at_least wd t hd ht)

-- the perturbed heights are convex
pub is_convex : (s : List ℕ) → AreKeys s → IsConvex height s
is_convex s k = record {
  one_of = λ a b c d e ma mb mc md me o wa wb wc wd l. elim (is_in e (a ∷ b ∷ c ∷ d ∷ [])) [
    | yes m ↦ m
    | no m ↦ (
        let ke = k.below e me in
        let low : sphere_polynomial a b c d e <ℤ pos 0 = sum_pos (orientation a b c d) (orientation b d c e)
        (orientation a c d e) (orientation a d b e) (orientation a b c e) (distance (place e) (place a))
        (distance (place e) (place b)) (distance (place e) (place c)) (distance (place e) (place d))
        (sphere_polynomial a b c d e) (weights_of a b c d e) o wa wb wc wd
        (apart e a ke (k.below a ma) (λ q. m (inl q))) (apart e b ke (k.below b mb) (λ q. m (inr (inl q))))
        (apart e c ke (k.below c mc) (λ q. m (inr (inr (inl q)))))
        (apart e d ke (k.below d md) (λ q. m (inr (inr (inr (inl q)))))) (sphere_by_distances a b c d e) in
        let inside : out a b c d e <ℤ pos 0 =
        (out_sign a b c d e (k.below a ma) (k.below b mb) (k.below c mc) (k.below d md) ke).negative low in
        absurd (clash (lifted height a b c d e) (subst (λ z. z <ℤ pos 0) (out_is a b c d e) inside) l))
  ];
}
