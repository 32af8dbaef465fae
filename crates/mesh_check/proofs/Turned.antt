-- The tests of a triple do not depend on whether its last two points are exchanged.
use Rattle.std.specs.Prelude.{◌≡◌, refl, ℕ, ℤ, pos, neg_ℤ, ◌<ℤ◌, Bool, false, not, ◌&&◌, ◌||◌, ◌==◌, List, Option, None}
use Rattle.std.specs.Prelude.{Some}
use Rattle.std.specs.Int.Signed.{lt_z}
use Rattle.std.specs.List.{find}
use Rattle.std.proofs.Common.{arith, ap, ◌∙◌}
use Rattle.std.proofs.lemmas.Int.{ints}
use Rattle.list_laws.proofs.Cited.{less_from, less_true, same_test}
use Rattle.point_order.specs.Orientation.{orientation, is_flat, is_zero}
use Rattle.point_order.specs.Heights.{out}
use Rattle.point_order.specs.Conflicts.{are_opposite}
use Rattle.point_order.specs.Spheres.{is_outside}
use Rattle.point_order.proofs.Cited.{swap_first, swap_last, swap_middle}
use Rattle.mesh_check.specs.Flaws.{is_inside_with}
use Rattle.mesh_check.proofs.Flaws.{find_same}
use Rattle.del_laws.proofs.Cited.{out_swap23 as out_turned}

-- ---- signs

-- a number is positive where its opposite is negative
high_turned : (z : ℤ) → lt_z (pos 0) (neg_ℤ z) ≡ lt_z z (pos 0)
high_turned z = same_test (lt_z (pos 0) (neg_ℤ z)) (lt_z z (pos 0))
    (λ t. less_true z (pos 0) (down (less_from (pos 0) (neg_ℤ z) t)))
    (λ t. less_true (pos 0) (neg_ℤ z) (up (less_from z (pos 0) t)))
  where
    -- of the numbers
    down : pos 0 <ℤ neg_ℤ z → z <ℤ pos 0
    down h = omega (arith, ints)

    -- and back
    up : z <ℤ pos 0 → pos 0 <ℤ neg_ℤ z
    up h = omega (arith, ints)

-- and negative where it is positive
low_turned : (z : ℤ) → lt_z (neg_ℤ z) (pos 0) ≡ lt_z (pos 0) z
low_turned z = same_test (lt_z (neg_ℤ z) (pos 0)) (lt_z (pos 0) z)
    (λ t. less_true (pos 0) z (up (less_from (neg_ℤ z) (pos 0) t)))
    (λ t. less_true (neg_ℤ z) (pos 0) (down (less_from (pos 0) z t)))
  where
    -- of the numbers
    up : neg_ℤ z <ℤ pos 0 → pos 0 <ℤ z
    up h = omega (arith, ints)

    -- and back
    down : pos 0 <ℤ z → neg_ℤ z <ℤ pos 0
    down h = omega (arith, ints)

-- two tests in the other order
and_turned : (p q : Bool) → (p && q) ≡ (q && p)
and_turned p q = grind arith

-- one of two in the other order
or_turned : (p q : Bool) → (p || q) ≡ (q || p)
or_turned p q = grind arith

-- one of three in another order
or_last : (p q r : Bool) → (p || (q || (r || false))) ≡ (p || (r || (q || false)))
or_last p q r = grind arith

-- a number and its opposite are 0 together
zero_turned : (z : ℤ) → is_zero (neg_ℤ z) ≡ is_zero z
zero_turned z = rw (high_turned z, low_turned z) (and_turned (not (lt_z z (pos 0))) (not (lt_z (pos 0) z)))

-- opposite signs of two numbers and of their opposites
signs_turned : (u v : ℤ) → ((lt_z (pos 0) (neg_ℤ u) && lt_z (neg_ℤ v) (pos 0)) ||
    (lt_z (neg_ℤ u) (pos 0) && lt_z (pos 0) (neg_ℤ v))) ≡
    ((lt_z (pos 0) u && lt_z v (pos 0)) || (lt_z u (pos 0) && lt_z (pos 0) v))
signs_turned u v = rw (
  high_turned u,
  low_turned v,
  low_turned u,
  high_turned v,
) (or_turned (lt_z u (pos 0) && lt_z (pos 0) v) (lt_z (pos 0) u && lt_z v (pos 0)))

-- the same sign of two numbers and of their opposites
same_turned : (u v : ℤ) → ((lt_z (pos 0) (neg_ℤ u) && lt_z (pos 0) (neg_ℤ v)) ||
    (lt_z (neg_ℤ u) (pos 0) && lt_z (neg_ℤ v) (pos 0))) ≡
    ((lt_z (pos 0) u && lt_z (pos 0) v) || (lt_z u (pos 0) && lt_z v (pos 0)))
same_turned u v = rw (
  high_turned u,
  low_turned v,
  low_turned u,
  high_turned v,
) (or_turned (lt_z u (pos 0) && lt_z v (pos 0)) (lt_z (pos 0) u && lt_z (pos 0) v))

-- ---- triples

-- in the plane of the three
pub flat_turned : (a b c e : ℕ) → is_flat a c b e ≡ is_flat a b c e
flat_turned a b c e = ap is_zero (swap_middle a b c e) ∙ zero_turned (orientation a b c e)

-- on opposite sides
pub opposite_turned : (a b c m p : ℕ) → are_opposite a c b m p ≡ are_opposite a b c m p
opposite_turned a b c m p = rw (
  swap_middle a b c m,
  swap_middle a b c p,
) (signs_turned (orientation a b c m) (orientation a b c p))

-- outside
pub outside_turned : (a b c f e : ℕ) → is_outside a c b f e ≡ is_outside a b c f e
outside_turned a b c f e = rw (
  swap_middle a b c f,
  out_turned a b c f e,
) (same_turned (orientation a b c f) (out a b c f e))

-- the same point is found off the plane
pub off_turned : (s : List ℕ) (a b c : ℕ) → find (λ f. not (is_flat a c b f)) s ≡ find (λ f. not (is_flat a b c f)) s
off_turned s a b c = find_same (λ f. not (is_flat a c b f)) (λ f. not (is_flat a b c f)) s
    (λ f m. ap not (flat_turned a b c f))

-- inside
pub inside_turned : (a b c p : ℕ) (o : Option ℕ) → is_inside_with a c b p o ≡ is_inside_with a b c p o
inside_turned a b c p None = refl
inside_turned a b c p (Some f) =
    rw (flat_turned a b c p, outside_turned a b c f p)
    (ap (λ t. not (t || not (is_flat a b c p) || is_outside a b c f p)) (or_last (a == p) (c == p) (b == p)))

-- ---- four points in one plane

-- the first two are exchanged
flat_first : (a b c d : ℕ) → is_flat b a c d ≡ is_flat a b c d
flat_first a b c d = ap is_zero (swap_first a b c d) ∙ zero_turned (orientation a b c d)

-- the third in the last place
pub flat_third : (a b c d : ℕ) → is_flat a b d c ≡ is_flat a b c d
flat_third a b c d = ap is_zero (swap_last a b c d) ∙ zero_turned (orientation a b c d)

-- the second in the last place
pub flat_second : (a b c d : ℕ) → is_flat a c d b ≡ is_flat a b c d
flat_second a b c d = flat_third a c b d ∙ flat_turned a b c d

-- the first in the last place
pub flat_front : (a b c d : ℕ) → is_flat b c d a ≡ is_flat a b c d
flat_front a b c d = flat_second b a c d ∙ flat_first a b c d
