-- A point that is farther from the centre of a sphere than the points on it is outside.
use Rattle.std.specs.Prelude.{◌≡◌, ◌≤◌, ℕ, ℤ, pos, neg_ℤ, ◌+ℤ◌, ◌-ℤ◌, ◌*ℤ◌, ◌≤ℤ◌, ◌<ℤ◌, ◌+◌, ◌*◌, true, ◌&&◌, [], ◌∷◌}
use Rattle.std.specs.Int.Signed.{lt_z}
use Rattle.std.proofs.Common.{arith, ap, inl, inr, sym, subst, ◌∙◌}
use Rattle.std.proofs.Math.IntN.{*ℤ-zero, zero-*ℤ}
use Rattle.std.proofs.lemmas.Int.{ints}
use Rattle.whole_ring.specs.Signs.{below, at_zero, above}
use Rattle.whole_ring.specs.Poly.{Expr, var, lit, ◌⊕◌, ◌⊗◌, minus, ◌⊖◌}
use Rattle.whole_ring.proofs.Cited.{mul_neg_pos, mul_nonneg, mul_pos_neg, ring, sign, square_nonneg}
use Rattle.list_laws.proofs.Cited.{both_true, left_true, less_true, right_true}
use Rattle.point_order.specs.Orientation.{orientation, distance, square_of_step, normal_x, normal_y, normal_z, minor}
use Rattle.point_order.specs.Orientation.{triple, x_from, y_from, z_from}
use Rattle.point_order.specs.Heights.{out, sphere_polynomial}
use Rattle.point_order.specs.Coordinates.{x_of, y_of, z_of}
use Rattle.point_order.specs.Laws.{AreFiveKeys}
use Rattle.point_order.specs.Spheres.{is_outside}
use Rattle.point_order.proofs.Cited.{out_sign, sphere_from_first}
use Rattle.mesh_check.specs.Boxes.{FarBoxIsOutside, FarIsOutside, IsGap, cell_centre_x, cell_centre_y, cell_centre_z}
use Rattle.mesh_check.specs.Boxes.{past, squared}

-- ---- the square completed

-- three variables as a vector
record V : Type 0 where
  x : Expr
  y : Expr
  z : Expr

-- three variables, the vector number n
abbrev v : ℕ → V
v n = record { x = var (3 * n); y = var (3 * n + 1); z = var (3 * n + 2) }

-- p s - q r
abbrev minor_w : Expr → Expr → Expr → Expr → Expr
minor_w p q r s = p ⊗ s ⊖ q ⊗ r

-- the determinant of three
abbrev det_w : V → V → V → Expr
det_w u v w = u.x ⊗ minor_w v.y v.z w.y w.z ⊕ u.y ⊗ minor_w v.z v.x w.z w.x ⊕ u.z ⊗ minor_w v.x v.y w.x w.y

-- the square of a length
abbrev square_w : V → Expr
square_w u = u.x ⊗ u.x ⊕ u.y ⊗ u.y ⊕ u.z ⊗ u.z

-- the step to the centre
abbrev centre_w : (Expr → Expr → Expr → Expr → Expr → Expr → Expr) → Expr
centre_w f = square_w (v 0) ⊗ f (v 1).x (v 1).y (v 1).z (v 2).x (v 2).y (v 2).z ⊕ square_w (v 1) ⊗ f (v 2).x (v 2).y
    (v 2).z (v 0).x (v 0).y (v 0).z ⊕ square_w (v 2) ⊗ f (v 0).x (v 0).y (v 0).z (v 1).x (v 1).y (v 1).z

-- the in-sphere polynomial by the step to the centre
by_centre : (a b c d e : ℕ) → sphere_polynomial a b c d e ≡ orientation a b c d *ℤ
    (x_from a e *ℤ x_from a e +ℤ y_from a e *ℤ y_from a e +ℤ z_from a e *ℤ z_from a e) -ℤ
    (cell_centre_x a b c d *ℤ x_from a e +ℤ cell_centre_y a b c d *ℤ y_from a e +ℤ cell_centre_z a b c d *ℤ z_from a e)
unfolding orientation distance square_of_step normal_x normal_y normal_z triple minor
by_centre a b c d e =
    sphere_from_first a b c d e
    ∙ ring
    (det_w (v 0) (v 1) (v 2) ⊗ square_w (v 3) ⊖ det_w (v 0) (v 1) (v 3) ⊗ square_w (v 2) ⊕ det_w (v 0) (v 2) (v 3) ⊗
    square_w (v 1) ⊖ det_w (v 1) (v 2) (v 3) ⊗ square_w (v 0))
    (det_w (v 0) (v 1) (v 2) ⊗ square_w (v 3)
    ⊖ (centre_w (λ px py pz qx qy qz. minor_w py pz qy qz) ⊗ var 9 ⊕ centre_w (λ px py pz qx qy qz. minor_w pz px qz qx)
    ⊗ var 10 ⊕ centre_w (λ px py pz qx qy qz. minor_w px py qx qy) ⊗ var 11))
    (x_from a b ∷ y_from a b ∷ z_from a b ∷ x_from a c ∷ y_from a c ∷ z_from a c ∷ x_from a d ∷ y_from a d ∷ z_from a d
    ∷ x_from a e ∷ y_from a e ∷ z_from a e ∷ []) tt

-- four times a quadratic times its leading number
completed : (o p q r x y z : ℤ) → pos 4 *ℤ (o *ℤ (o *ℤ (x *ℤ x +ℤ y *ℤ y +ℤ z *ℤ z) -ℤ (p *ℤ x +ℤ q *ℤ y +ℤ r *ℤ z))) ≡
    (squared (past o x p) +ℤ squared (past o y q) +ℤ squared (past o z r)) -ℤ (squared p +ℤ squared q +ℤ squared r)
completed o p q r x y z =
    ring (lit (pos 4) ⊗ (var 0 ⊗ (var 0 ⊗ (var 4 ⊗ var 4 ⊕ var 5 ⊗ var 5 ⊕ var 6 ⊗ var 6) ⊖
    (var 1 ⊗ var 4 ⊕ var 2 ⊗ var 5 ⊕ var 3 ⊗ var 6))))
    ((sq 4 1 ⊕ sq 5 2 ⊕ sq 6 3) ⊖ (var 1 ⊗ var 1 ⊕ var 2 ⊗ var 2 ⊕ var 3 ⊗ var 3)) (o ∷ p ∷ q ∷ r ∷ x ∷ y ∷ z ∷ []) tt
  where
    -- how far one step leads past the centre
    far : ℕ → ℕ → Expr
    far i j = lit (pos 2) ⊗ var 0 ⊗ var i ⊖ var j

    -- its square
    sq : ℕ → ℕ → Expr
    sq i j = far i j ⊗ far i j

-- ---- signs

-- a product that is positive has two factors of one sign
product_high : (o s m f : ℤ) → pos 4 *ℤ (o *ℤ s) ≡ f -ℤ m → m <ℤ f → pos 0 <ℤ (o *ℤ s)
product_high o s m f e l = omega (arith, ints, e, l)

-- outside, by the signs of the orientation and the polynomial
by_signs : (a b c d e : ℕ) → AreFiveKeys a b c d e → pos 0 <ℤ (orientation a b c d *ℤ sphere_polynomial a b c d e) →
    is_outside a b c d e ≡ true
by_signs a b c d e k h =
    let o = orientation a b c d in
    let s = sphere_polynomial a b c d e in
    let g = out_sign a b c d e k.0 k.1 k.2 k.3 k.4 in
    elim (sign o) [
      | above p ↦ left_true (lt_z (pos 0) o && lt_z (pos 0) (out a b c d e))
          (lt_z o (pos 0) && lt_z (out a b c d e) (pos 0))
          (both_true (lt_z (pos 0) o) (lt_z (pos 0) (out a b c d e)) (less_true (pos 0) o p)
          (less_true (pos 0) (out a b c d e) (g.positive (high p))))
      | below p ↦ right_true (lt_z (pos 0) o && lt_z (pos 0) (out a b c d e))
          (lt_z o (pos 0) && lt_z (out a b c d e) (pos 0))
          (both_true (lt_z o (pos 0)) (lt_z (out a b c d e) (pos 0)) (less_true o (pos 0) p)
          (less_true (out a b c d e) (pos 0) (g.negative (low p))))
      | at_zero z ↦ absurd (none z)
    ]
  where
    -- the polynomial is positive with a positive orientation
    high : pos 0 <ℤ orientation a b c d → pos 0 <ℤ sphere_polynomial a b c d e
    high p = factor (orientation a b c d) (sphere_polynomial a b c d e) p h
      where
        -- of two numbers
        factor : (o s : ℤ) → pos 0 <ℤ o → pos 0 <ℤ (o *ℤ s) → pos 0 <ℤ s
        factor o s p h = elim (sign s) [
          | above q ↦ q
          | at_zero z ↦ absurd (zero (ap (λ v. o *ℤ v) z ∙ *ℤ-zero o))
          | below q ↦ absurd (omega (arith, ints, mul_pos_neg o s p q, h))
        ]
          where
            -- no product is 0
            zero : o *ℤ s ≡ pos 0 → ⊥
            zero e = omega (arith, ints, e, h)

    -- and negative with a negative one
    low : orientation a b c d <ℤ pos 0 → sphere_polynomial a b c d e <ℤ pos 0
    low p = factor (orientation a b c d) (sphere_polynomial a b c d e) p h
      where
        -- of two numbers
        factor : (o s : ℤ) → o <ℤ pos 0 → pos 0 <ℤ (o *ℤ s) → s <ℤ pos 0
        factor o s p h = elim (sign s) [
          | below q ↦ q
          | at_zero z ↦ absurd (zero (ap (λ v. o *ℤ v) z ∙ *ℤ-zero o))
          | above q ↦ absurd (omega (arith, ints, mul_neg_pos o s p q, h))
        ]
          where
            -- no product is 0
            zero : o *ℤ s ≡ pos 0 → ⊥
            zero e = omega (arith, ints, e, h)

    -- it is not 0
    none : orientation a b c d ≡ pos 0 → ⊥
    none z = flat (orientation a b c d) (sphere_polynomial a b c d e) z h
      where
        -- of two numbers
        flat : (o s : ℤ) → o ≡ pos 0 → pos 0 <ℤ (o *ℤ s) → ⊥
        flat o s z h = let e : o *ℤ s ≡ pos 0 = ap (λ v. v *ℤ s) z ∙ zero-*ℤ s in omega (arith, ints, e, h)

-- sums of squares that are at least others
sums : (x y z p q r m : ℤ) → squared x ≤ℤ p → squared y ≤ℤ q → squared z ≤ℤ r →
    m <ℤ (squared x +ℤ squared y +ℤ squared z) → m <ℤ (p +ℤ q +ℤ r)
sums x y z p q r m hx hy hz l = omega (arith, ints, hx, hy, hz, l)

-- the law FarIsOutside
pub far_is_outside : FarIsOutside
far_is_outside a b c d e x y z k hx hy hz l =
    by_signs a b c d e k
    (product_high (orientation a b c d) (sphere_polynomial a b c d e)
    (squared (cell_centre_x a b c d) +ℤ squared (cell_centre_y a b c d) +ℤ squared (cell_centre_z a b c d))
    (squared (past (orientation a b c d) (x_from a e) (cell_centre_x a b c d)) +ℤ squared
    (past (orientation a b c d) (y_from a e) (cell_centre_y a b c d)) +ℤ squared
    (past (orientation a b c d) (z_from a e) (cell_centre_z a b c d)))
    (ap (λ s. pos 4 *ℤ (orientation a b c d *ℤ s)) (by_centre a b c d e)
    ∙ completed (orientation a b c d) (cell_centre_x a b c d) (cell_centre_y a b c d) (cell_centre_z a b c d)
    (x_from a e) (y_from a e)
    (z_from a e))
    (sums x y z (squared (past (orientation a b c d) (x_from a e) (cell_centre_x a b c d)))
    (squared (past (orientation a b c d) (y_from a e) (cell_centre_y a b c d)))
    (squared (past (orientation a b c d) (z_from a e) (cell_centre_z a b c d)))
    (squared (cell_centre_x a b c d) +ℤ squared (cell_centre_y a b c d) +ℤ squared (cell_centre_z a b c d)) hx hy hz l))

-- ---- boxes

-- of two numbers that are not negative the lesser has the lesser square
square_rises : (g p : ℤ) → pos 0 ≤ℤ g → g ≤ℤ p → squared g ≤ℤ squared p
square_rises g p h l =
    let a : pos 0 ≤ℤ (p -ℤ g) = omega (arith, ints) in
    let b : pos 0 ≤ℤ (p +ℤ g) = omega (arith, ints) in
    let e : squared p ≡ (p -ℤ g) *ℤ (p +ℤ g) +ℤ squared g =
    ring (var 0 ⊗ var 0) ((var 0 ⊖ var 1) ⊗ (var 0 ⊕ var 1) ⊕ var 1 ⊗ var 1) (p ∷ g ∷ []) tt in
    omega (arith, ints, e, mul_nonneg (p -ℤ g) (p +ℤ g) a b)

-- a later step leads farther past the centre
past_rises : (o s t n : ℤ) → pos 0 <ℤ o → s ≤ℤ t → past o s n ≤ℤ past o t n
past_rises o s t n h l =
    let a : pos 0 ≤ℤ o = omega (arith, ints) in
    let b : pos 0 ≤ℤ (t -ℤ s) = omega (arith, ints) in
    let e : past o t n ≡ past o s n +ℤ pos 2 *ℤ (o *ℤ (t -ℤ s)) =
    ring (lit (pos 2) ⊗ var 0 ⊗ var 2 ⊖ var 3)
    (lit (pos 2) ⊗ var 0 ⊗ var 1 ⊖ var 3 ⊕ lit (pos 2) ⊗ (var 0 ⊗ (var 2 ⊖ var 1))) (o ∷ s ∷ t ∷ n ∷ []) tt in
    omega (arith, ints, e, mul_nonneg o (t -ℤ s) a b)

-- the square of an opposite
square_turned : (p : ℤ) → squared (neg_ℤ p) ≡ squared p
square_turned p = ring (minus (var 0) ⊗ minus (var 0)) (var 0 ⊗ var 0) (p ∷ []) tt

-- so a gap is no more than the distance of each coordinate between
gap_below : (o lo hi t n g : ℤ) → pos 0 <ℤ o → lo ≤ℤ t → t ≤ℤ hi → IsGap o lo hi n g → squared g ≤ℤ squared (past o t n)
gap_below o lo hi t n g h kl kh u = elim u [
  | inl e ↦ subst (λ v. squared v ≤ℤ squared (past o t n)) (sym e) (square_nonneg (past o t n))
  | inr r ↦ elim r [
    | inl w ↦ square_rises g (past o t n) w.0 (through g (past o lo n) (past o t n) w.1 (past_rises o lo t n h kl))
    | inr w ↦ subst (λ v. squared g ≤ℤ v) (square_turned (past o t n))
        (square_rises g (neg_ℤ (past o t n)) w.0 (back g (past o hi n) (past o t n) w.1 (past_rises o t hi n h kh)))
  ]
]
  where
    -- at most what is at most
    through : (a b c : ℤ) → a ≤ℤ b → b ≤ℤ c → a ≤ℤ c
    through a b c i j = omega (arith, ints)

    -- the same of opposites
    back : (a b c : ℤ) → a ≤ℤ neg_ℤ b → c ≤ℤ b → a ≤ℤ neg_ℤ c
    back a b c i j = omega (arith, ints)

-- a lesser coordinate is a lesser step
step_below : (m n k : ℕ) → m ≤ n → (pos m -ℤ pos k) ≤ℤ (pos n -ℤ pos k)
step_below m n k l = omega (arith, ints, l)

-- the law FarBoxIsOutside
pub far_box_is_outside : FarBoxIsOutside
unfolding x_from y_from z_from
far_box_is_outside a b c d low high e x y z k o i gx gy gz l =
    far_is_outside a b c d e x y z k
    (gap_below (orientation a b c d) (x_from a low) (x_from a high) (x_from a e) (cell_centre_x a b c d) x o
    (step_below (x_of low) (x_of e) (x_of a) i.x_low) (step_below (x_of e) (x_of high) (x_of a) i.x_high) gx)
    (gap_below (orientation a b c d) (y_from a low) (y_from a high) (y_from a e) (cell_centre_y a b c d) y o
    (step_below (y_of low) (y_of e) (y_of a) i.y_low) (step_below (y_of e) (y_of high) (y_of a) i.y_high) gy)
    (gap_below (orientation a b c d) (z_from a low) (z_from a high) (z_from a e) (cell_centre_z a b c d) z o
    (step_below (z_of low) (z_of e) (z_of a) i.z_low) (step_below (z_of e) (z_of high) (z_of a) i.z_high) gz)
    l
