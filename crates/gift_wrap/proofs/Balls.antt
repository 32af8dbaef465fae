-- The sphere of a triple and a point above it: the in-sphere polynomial by minors of the steps to the three.
use Rattle.std.specs.Prelude.{◌≡◌, ◌≢◌, ℕ, suc, ℤ, pos, ◌<ℤ◌, ◌+ℤ◌, ◌-ℤ◌, ◌*ℤ◌, ◌&&◌, ◌||◌, [], ◌∷◌, Option, None, Some}
use Rattle.std.specs.Prelude.{IfSome}
use Rattle.std.specs.Int.Signed.{lt_z}
use Rattle.std.proofs.Common.{arith, ◌∙◌}
use Rattle.std.proofs.lemmas.Int.{ints}
use Rattle.whole_ring.specs.Poly.{Expr, var, ◌⊕◌, ◌⊖◌, ◌⊗◌}
use Rattle.whole_ring.specs.Signs.{HasSignOf, below, at_zero, above}
use Rattle.whole_ring.proofs.Cited.{ring, sign}
use Rattle.point_order.specs.Heights.{sphere_polynomial}
use Rattle.point_order.specs.Orientation.{x_from, y_from, z_from, minor, triple, normal_x, normal_y, normal_z}
use Rattle.point_order.specs.Orientation.{orientation, distance}
use Rattle.gift_wrap.specs.Balls.{IsBallOf, last_of_ball}
use Rattle.gift_wrap.specs.declared.ball.Ball.{Ball}
use Rattle.point_order.proofs.Cited.{sphere_from_first}

-- the determinant of two rows, written
abbrev minor_w : ℕ → ℕ → ℕ → ℕ → Expr
minor_w p q r s = var p ⊗ var s ⊖ var q ⊗ var r

-- the determinant of three rows that begin at these variables
abbrev triple_w : ℕ → ℕ → ℕ → Expr
triple_w u v w =
    var u ⊗ minor_w (suc v) (suc (suc v)) (suc w) (suc (suc w)) ⊕ var (suc u) ⊗ minor_w (suc (suc v)) v (suc (suc w)) w
    ⊕ var (suc (suc u)) ⊗ minor_w v (suc v) w (suc w)

-- of four steps with their squares the polynomial is linear in the last step and its square
by_minors : (ux uy uz vx vy vz wx wy wz tx ty tz k l m n : ℤ) →
    triple ux uy uz vx vy vz wx wy wz *ℤ n -ℤ triple ux uy uz vx vy vz tx ty tz *ℤ k
    +ℤ triple ux uy uz wx wy wz tx ty tz *ℤ l -ℤ triple vx vy vz wx wy wz tx ty tz *ℤ m
    ≡ triple ux uy uz vx vy vz wx wy wz *ℤ n
    -ℤ (minor uy uz vy vz *ℤ k -ℤ minor uy uz wy wz *ℤ l +ℤ minor vy vz wy wz *ℤ m) *ℤ tx
    -ℤ (minor uz ux vz vx *ℤ k -ℤ minor uz ux wz wx *ℤ l +ℤ minor vz vx wz wx *ℤ m) *ℤ ty
    -ℤ (minor ux uy vx vy *ℤ k -ℤ minor ux uy wx wy *ℤ l +ℤ minor vx vy wx wy *ℤ m) *ℤ tz
unfolding triple minor
by_minors ux uy uz vx vy vz wx wy wz tx ty tz k l m n =
    ring
    (triple_w 0 3 6 ⊗ var 15 ⊖ triple_w 0 3 9 ⊗ var 12 ⊕ triple_w 0 6 9 ⊗ var 13 ⊖ triple_w 3 6 9 ⊗ var 14)
    (triple_w 0 3 6 ⊗ var 15
    ⊖ (minor_w 1 2 4 5 ⊗ var 12 ⊖ minor_w 1 2 7 8 ⊗ var 13 ⊕ minor_w 4 5 7 8 ⊗ var 14) ⊗ var 9
    ⊖ (minor_w 2 0 5 3 ⊗ var 12 ⊖ minor_w 2 0 8 6 ⊗ var 13 ⊕ minor_w 5 3 8 6 ⊗ var 14) ⊗ var 10
    ⊖ (minor_w 0 1 3 4 ⊗ var 12 ⊖ minor_w 0 1 6 7 ⊗ var 13 ⊕ minor_w 3 4 6 7 ⊗ var 14) ⊗ var 11)
    (ux ∷ uy ∷ uz ∷ vx ∷ vy ∷ vz ∷ wx ∷ wy ∷ wz ∷ tx ∷ ty ∷ tz ∷ k ∷ l ∷ m ∷ n ∷ []) tt

-- so the polynomial of five points is what is kept of four of them tells of the fifth
pub by_kept : (a b c d e : ℕ) → sphere_polynomial a b c d e ≡ orientation a b c d *ℤ distance a e
    -ℤ (normal_x a b c *ℤ distance a d -ℤ normal_x a b d *ℤ distance a c +ℤ normal_x a c d *ℤ distance a b)
    *ℤ x_from a e
    -ℤ (normal_y a b c *ℤ distance a d -ℤ normal_y a b d *ℤ distance a c +ℤ normal_y a c d *ℤ distance a b)
    *ℤ y_from a e
    -ℤ (normal_z a b c *ℤ distance a d -ℤ normal_z a b d *ℤ distance a c +ℤ normal_z a c d *ℤ distance a b)
    *ℤ z_from a e
unfolding orientation normal_x normal_y normal_z
by_kept a b c d e =
    sphere_from_first a b c d e ∙ by_minors (x_from a b) (y_from a b) (z_from a b) (x_from a c) (y_from a c)
    (z_from a c)
    (x_from a d) (y_from a d) (z_from a d) (x_from a e) (y_from a e) (z_from a e) (distance a d) (distance a c)
    (distance a b) (distance a e)

-- equal numbers tell the same
pub same_kept : {h x y z k l m n : ℤ} (s i j t : ℤ) → h ≡ k → x ≡ l → y ≡ m → z ≡ n →
    h *ℤ s -ℤ x *ℤ i -ℤ y *ℤ j -ℤ z *ℤ t ≡ k *ℤ s -ℤ l *ℤ i -ℤ m *ℤ j -ℤ n *ℤ t
same_kept s i j t e f g q = cc

-- where o is positive and s is not 0, s is positive exactly where o and r, of whose sign it is, have one sign
pub by_sign : (s o r : ℤ) → s ≢ pos 0 → pos 0 <ℤ o → HasSignOf s r →
    lt_z (pos 0) s ≡ ((lt_z (pos 0) o && lt_z (pos 0) r) || (lt_z o (pos 0) && lt_z r (pos 0)))
by_sign s o r n f h =
    elim (sign s) [
      | below p ↦ let m : r <ℤ pos 0 = h.negative p in negative s o r p f m
      | at_zero z ↦ absurd (n z)
      | above p ↦ let m : pos 0 <ℤ r = h.positive p in positive s o r p f m
    ]
  where
    negative : (s o r : ℤ) → s <ℤ pos 0 → pos 0 <ℤ o → r <ℤ pos 0 →
        lt_z (pos 0) s ≡ ((lt_z (pos 0) o && lt_z (pos 0) r) || (lt_z o (pos 0) && lt_z r (pos 0)))
    negative s o r p f m = grind (arith, ints)

    positive : (s o r : ℤ) → pos 0 <ℤ s → pos 0 <ℤ o → pos 0 <ℤ r →
        lt_z (pos 0) s ≡ ((lt_z (pos 0) o && lt_z (pos 0) r) || (lt_z o (pos 0) && lt_z r (pos 0)))
    positive s o r p f m = grind (arith, ints)

-- a sphere whose last point is another than the next
pub ball_apart : (a b c : ℕ) (best : Option Ball) (e : ℕ) → IfSome best (IsBallOf a b c) →
    IfSome (last_of_ball best) (λ d. (pos 0 <ℤ orientation a b c d) × (d ≢ e)) →
    IfSome best (λ ball. IsBallOf a b c ball × (ball.last ≢ e))
ball_apart a b c None e k n = tt
ball_apart a b c (Some ball) e k n = (k, n.1)
