-- A plane beyond a sphere: no point on it or farther lies inside the sphere.
use Rattle.std.specs.Prelude.{ℕ, ◌+◌, ◌<◌, ◌==◌, Bool, true, ◌&&◌, ◌||◌, ℤ, pos, ◌+ℤ◌, ◌-ℤ◌, ◌*ℤ◌, ◌≡◌, ◌≤ℤ◌, ◌<ℤ◌}
use Rattle.std.specs.Prelude.{List, [], ◌∷◌}
use Rattle.std.specs.Int.Signed.{lt_z}
use Rattle.std.proofs.Common.{arith, inl, inr, ◌∙◌, subst, sym}
use Rattle.std.proofs.lemmas.Int.{ints}
use Rattle.whole_ring.specs.Poly.{Expr, var, lit, ◌⊕◌, ◌⊖◌, ◌⊗◌, nothing, Parts, end, part}
use Rattle.whole_ring.proofs.Cited.{pos_from, ring, square_nonneg}
use Rattle.list_laws.proofs.Cited.{first_true, second_true, one_true, same_from, less_from}
use Rattle.point_order.specs.Coordinates.{x_of, y_of, z_of}
use Rattle.point_order.specs.Orientation.{x_from, y_from, z_from, minor, triple, normal_x, normal_y, normal_z}
use Rattle.point_order.specs.Orientation.{orientation, square_of_step, distance}
use Rattle.point_order.specs.Heights.{sphere_polynomial}
use Rattle.point_order.proofs.Cited.{sphere_from_first}
use Rattle.small_spheres.specs.Inside.{dot}
use Rattle.small_spheres.specs.Within.{cell_centre_x, cell_centre_y, cell_centre_z, square_of_centre}
use Rattle.small_spheres.specs.Boxes.{IsBeyond, low_gap, high_gap, is_clear, is_inside_ends, is_inside_box}
use Rattle.list_laws.proofs.Cited.{weak}
use Rattle.point_order.proofs.Cited.{x_of_below as x_below, y_of_below as y_below, z_of_below as z_below}

-- ---- the in-sphere polynomial by the centre

-- the words of determinants, written
abbrev minor_w : Expr → Expr → Expr → Expr → Expr
minor_w p q r s = p ⊗ s ⊖ q ⊗ r

abbrev dot_w : Expr → Expr → Expr → Expr → Expr → Expr → Expr
dot_w ux uy uz vx vy vz = ux ⊗ vx ⊕ uy ⊗ vy ⊕ uz ⊗ vz

-- of three vectors, the first coordinate of each by the place of its variable
abbrev triple_w : ℕ → ℕ → ℕ → Expr
triple_w i j k =
    dot_w (var i) (var (i + 1)) (var (i + 2)) (minor_w (var (j + 1)) (var (j + 2)) (var (k + 1)) (var (k + 2)))
    (minor_w (var (j + 2)) (var j) (var (k + 2)) (var k)) (minor_w (var j) (var (j + 1)) (var k) (var (k + 1)))

-- three squares p, q, r times the normals of v and w, w and u, u and v
gathered : (m p q r ux uy uz vx vy vz wx wy wz tx ty tz : ℤ) →
    m -ℤ triple ux uy uz vx vy vz tx ty tz *ℤ r +ℤ triple ux uy uz wx wy wz tx ty tz *ℤ q
    -ℤ triple vx vy vz wx wy wz tx ty tz *ℤ p
    ≡ m -ℤ dot tx ty tz (dot p q r (minor vy vz wy wz) (minor wy wz uy uz) (minor uy uz vy vz))
    (dot p q r (minor vz vx wz wx) (minor wz wx uz ux) (minor uz ux vz vx))
    (dot p q r (minor vx vy wx wy) (minor wx wy ux uy) (minor ux uy vx vy))
unfolding triple dot minor
gathered m p q r ux uy uz vx vy vz wx wy wz tx ty tz =
    ring
    (var 0 ⊖ triple_w 4 7 13 ⊗ var 3 ⊕ triple_w 4 10 13 ⊗ var 2 ⊖ triple_w 7 10 13 ⊗ var 1)
    (var 0
    ⊖ dot_w (var 13) (var 14) (var 15)
    (dot_w (var 1) (var 2) (var 3) (minor_w (var 8) (var 9) (var 11) (var 12))
    (minor_w (var 11) (var 12) (var 5) (var 6)) (minor_w (var 5) (var 6) (var 8) (var 9)))
    (dot_w (var 1) (var 2) (var 3) (minor_w (var 9) (var 7) (var 12) (var 10))
    (minor_w (var 12) (var 10) (var 6) (var 4)) (minor_w (var 6) (var 4) (var 9) (var 7)))
    (dot_w (var 1) (var 2) (var 3) (minor_w (var 7) (var 8) (var 10) (var 11))
    (minor_w (var 10) (var 11) (var 4) (var 5)) (minor_w (var 4) (var 5) (var 7) (var 8))))
    (m ∷ p ∷ q ∷ r ∷ ux ∷ uy ∷ uz ∷ vx ∷ vy ∷ vz ∷ wx ∷ wy ∷ wz ∷ tx ∷ ty ∷ tz ∷ []) tt

-- O |t|^2 - t . N, with t the step from a to e
pub by_centre : (a b c d e : ℕ) → sphere_polynomial a b c d e ≡ orientation a b c d *ℤ distance a e
    -ℤ dot (x_from a e) (y_from a e) (z_from a e) (cell_centre_x a b c d) (cell_centre_y a b c d)
    (cell_centre_z a b c d)
unfolding orientation cell_centre_x cell_centre_y cell_centre_z normal_x normal_y normal_z
by_centre a b c d e =
    sphere_from_first a b c d e
    ∙ gathered (orientation a b c d *ℤ distance a e) (distance a b) (distance a c) (distance a d)
    (x_from a b) (y_from a b) (z_from a b) (x_from a c) (y_from a c) (z_from a c)
    (x_from a d) (y_from a d) (z_from a d) (x_from a e) (y_from a e) (z_from a e)

-- ---- one plane

-- The numbers: O is the variable 0, N are 1 to 3, t are 4 to 6, the step to the corner is 7.
-- O times the polynomial of a point
abbrev power_w : Expr
power_w =
    var 0 ⊗ (var 0 ⊗ (var 4 ⊗ var 4 ⊕ var 5 ⊗ var 5 ⊕ var 6 ⊗ var 6)
    ⊖ (var 4 ⊗ var 1 ⊕ var 5 ⊗ var 2 ⊕ var 6 ⊗ var 3))

-- |N|^2
abbrev square_w : Expr
square_w = var 1 ⊗ var 1 ⊕ var 2 ⊗ var 2 ⊕ var 3 ⊗ var 3

-- 2 O t - N along an axis
abbrev way_w : ℕ → Expr
way_w i = lit (pos 2) ⊗ var 0 ⊗ var (4 + i) ⊖ var (1 + i)

-- the gap g at an end, along the axis i, and how far beyond the plane the point lies
abbrev high_w : ℕ → Expr
high_w i = lit (pos 2) ⊗ var 0 ⊗ (var 7 ⊕ lit (pos 1)) ⊖ var (1 + i)

abbrev low_w : ℕ → Expr
low_w i = var (1 + i) ⊖ lit (pos 2) ⊗ var 0 ⊗ (var 7 ⊖ lit (pos 1))

abbrev over_w : ℕ → Expr
over_w i = var (4 + i) ⊖ (var 7 ⊕ lit (pos 1))

abbrev under_w : ℕ → Expr
under_w i = var 7 ⊖ lit (pos 1) ⊖ var (4 + i)

-- 4 O times the polynomial: with l how far beyond, and j, k the other axes, it is
-- 4 O g l + 4 O^2 l^2 + the squares along j and k + g^2 - |N|^2
abbrev terms : Expr → Expr → ℕ → ℕ → Parts
terms g l j k =
    part (lit (pos 4) ⊗ l) (var 0 ⊗ g)
    (part (lit (pos 4)) ((var 0 ⊗ l) ⊗ (var 0 ⊗ l))
    (part (lit (pos 1)) (way_w j ⊗ way_w j)
    (part (lit (pos 1)) (way_w k ⊗ way_w k)
    (end (lit (pos 1)) (g ⊗ g ⊖ square_w)))))

-- small numbers
four : pos 0 ≤ℤ pos 4
four = omega (arith, ints)

four_above : pos 0 <ℤ pos 4
four_above = omega (arith, ints)

one : pos 0 ≤ℤ pos 1
one = omega (arith, ints)

one_above : pos 0 <ℤ pos 1
one_above = omega (arith, ints)

-- a difference
more : (a b : ℤ) → a <ℤ b → pos 0 <ℤ (b -ℤ a)
more a b h = omega (arith, ints)

fourfold : (a : ℤ) → pos 0 ≤ℤ a → pos 0 ≤ℤ (pos 4 *ℤ a)
fourfold a h = omega (arith, ints)

module _ (o n1 n2 n3 t1 t2 t3 s : ℤ) where
  -- O times the polynomial, and |N|^2
  abbrev power : ℤ
  power = o *ℤ (o *ℤ (t1 *ℤ t1 +ℤ t2 *ℤ t2 +ℤ t3 *ℤ t3) -ℤ (t1 *ℤ n1 +ℤ t2 *ℤ n2 +ℤ t3 *ℤ n3))

  abbrev square : ℤ
  square = n1 *ℤ n1 +ℤ n2 *ℤ n2 +ℤ n3 *ℤ n3

  abbrev numbers : List ℤ
  numbers = o ∷ n1 ∷ n2 ∷ n3 ∷ t1 ∷ t2 ∷ t3 ∷ s ∷ []

  -- the gaps at the two ends
  abbrev above : ℤ → ℤ
  above n = pos 2 *ℤ o *ℤ (s +ℤ pos 1) -ℤ n

  abbrev below : ℤ → ℤ
  below n = n -ℤ pos 2 *ℤ o *ℤ (s -ℤ pos 1)

  -- 2 O t - N along an axis
  abbrev way : ℤ → ℤ → ℤ
  way t n = pos 2 *ℤ o *ℤ t -ℤ n

  -- beyond the plane at the high end of the first axis
  high1 : pos 0 <ℤ (o *ℤ above n1) → square <ℤ (above n1 *ℤ above n1) →
      pos 0 ≤ℤ (t1 -ℤ (s +ℤ pos 1)) → pos 0 <ℤ power
  high1 h q l =
      pos_from (lit (pos 4)) power_w (terms (high_w 0) (over_w 0) 1 2) nothing numbers four_above (
        fourfold (t1 -ℤ (s +ℤ pos 1)) l,
        weak (o *ℤ above n1) h,
        (
          four,
          square_nonneg (o *ℤ (t1 -ℤ (s +ℤ pos 1))),
          (
            one,
            square_nonneg (way t2 n2),
            (
              one,
              square_nonneg (way t3 n3),
              (one_above, more square (above n1 *ℤ above n1) q),
            ),
          ),
        ),
      ) tt tt

  -- and at the low end
  low1 : pos 0 <ℤ (o *ℤ below n1) → square <ℤ (below n1 *ℤ below n1) →
      pos 0 ≤ℤ (s -ℤ pos 1 -ℤ t1) → pos 0 <ℤ power
  low1 h q l =
      pos_from (lit (pos 4)) power_w (terms (low_w 0) (under_w 0) 1 2) nothing numbers four_above (
        fourfold (s -ℤ pos 1 -ℤ t1) l,
        weak (o *ℤ below n1) h,
        (
          four,
          square_nonneg (o *ℤ (s -ℤ pos 1 -ℤ t1)),
          (
            one,
            square_nonneg (way t2 n2),
            (
              one,
              square_nonneg (way t3 n3),
              (one_above, more square (below n1 *ℤ below n1) q),
            ),
          ),
        ),
      ) tt tt

  -- beyond the plane at the high end of the second axis
  high2 : pos 0 <ℤ (o *ℤ above n2) → square <ℤ (above n2 *ℤ above n2) →
      pos 0 ≤ℤ (t2 -ℤ (s +ℤ pos 1)) → pos 0 <ℤ power
  high2 h q l =
      pos_from (lit (pos 4)) power_w (terms (high_w 1) (over_w 1) 0 2) nothing numbers four_above (
        fourfold (t2 -ℤ (s +ℤ pos 1)) l,
        weak (o *ℤ above n2) h,
        (
          four,
          square_nonneg (o *ℤ (t2 -ℤ (s +ℤ pos 1))),
          (
            one,
            square_nonneg (way t1 n1),
            (
              one,
              square_nonneg (way t3 n3),
              (one_above, more square (above n2 *ℤ above n2) q),
            ),
          ),
        ),
      ) tt tt

  -- and at the low end
  low2 : pos 0 <ℤ (o *ℤ below n2) → square <ℤ (below n2 *ℤ below n2) →
      pos 0 ≤ℤ (s -ℤ pos 1 -ℤ t2) → pos 0 <ℤ power
  low2 h q l =
      pos_from (lit (pos 4)) power_w (terms (low_w 1) (under_w 1) 0 2) nothing numbers four_above (
        fourfold (s -ℤ pos 1 -ℤ t2) l,
        weak (o *ℤ below n2) h,
        (
          four,
          square_nonneg (o *ℤ (s -ℤ pos 1 -ℤ t2)),
          (
            one,
            square_nonneg (way t1 n1),
            (
              one,
              square_nonneg (way t3 n3),
              (one_above, more square (below n2 *ℤ below n2) q),
            ),
          ),
        ),
      ) tt tt

  -- beyond the plane at the high end of the third axis
  high3 : pos 0 <ℤ (o *ℤ above n3) → square <ℤ (above n3 *ℤ above n3) →
      pos 0 ≤ℤ (t3 -ℤ (s +ℤ pos 1)) → pos 0 <ℤ power
  high3 h q l =
      pos_from (lit (pos 4)) power_w (terms (high_w 2) (over_w 2) 0 1) nothing numbers four_above (
        fourfold (t3 -ℤ (s +ℤ pos 1)) l,
        weak (o *ℤ above n3) h,
        (
          four,
          square_nonneg (o *ℤ (t3 -ℤ (s +ℤ pos 1))),
          (
            one,
            square_nonneg (way t1 n1),
            (
              one,
              square_nonneg (way t2 n2),
              (one_above, more square (above n3 *ℤ above n3) q),
            ),
          ),
        ),
      ) tt tt

  -- and at the low end
  low3 : pos 0 <ℤ (o *ℤ below n3) → square <ℤ (below n3 *ℤ below n3) →
      pos 0 ≤ℤ (s -ℤ pos 1 -ℤ t3) → pos 0 <ℤ power
  low3 h q l =
      pos_from (lit (pos 4)) power_w (terms (low_w 2) (under_w 2) 0 1) nothing numbers four_above (
        fourfold (s -ℤ pos 1 -ℤ t3) l,
        weak (o *ℤ below n3) h,
        (
          four,
          square_nonneg (o *ℤ (s -ℤ pos 1 -ℤ t3)),
          (
            one,
            square_nonneg (way t1 n1),
            (
              one,
              square_nonneg (way t2 n2),
              (one_above, more square (below n3 *ℤ below n3) q),
            ),
          ),
        ),
      ) tt tt

-- ---- points outside the box

-- an end that a point lies beyond is not free
low_end : (k e : ℕ) (t : Bool) → e < k → (k == 0 || t) ≡ true → t ≡ true
low_end k e t l f = elim (one_true (k == 0) t f) [
  | inl z ↦ absurd (none k e (same_from k 0 z) l)
  | inr g ↦ g
]
  where
    none : (k e : ℕ) → k ≡ 0 → e < k → ⊥
    none k e z l = omega arith

high_end : (k e : ℕ) (t : Bool) → e < 16384 → k < e → (k == 16383 || t) ≡ true → t ≡ true
high_end k e t m l f = elim (one_true (k == 16383) t f) [
  | inl z ↦ absurd (none k e (same_from k 16383 z) m l)
  | inr g ↦ g
]
  where
    none : (k e : ℕ) → k ≡ 16383 → e < 16384 → k < e → ⊥
    none k e z m l = omega arith

-- how far beyond a point lies, by the steps from another
under : (e k a : ℕ) → e < k → pos 0 ≤ℤ (pos k -ℤ pos a -ℤ pos 1 -ℤ (pos e -ℤ pos a))
under e k a l = omega (arith, ints)

over : (e k a : ℕ) → k < e → pos 0 ≤ℤ (pos e -ℤ pos a -ℤ (pos k -ℤ pos a +ℤ pos 1))
over e k a l = omega (arith, ints)

-- the two parts of a plane that is clear
same_side : (o q g : ℤ) → is_clear o q g ≡ true → pos 0 <ℤ (o *ℤ g)
same_side o q g t =
    less_from (pos 0) (o *ℤ g) (first_true (lt_z (pos 0) (o *ℤ g)) (lt_z q (g *ℤ g)) t)

farther : (o q g : ℤ) → is_clear o q g ≡ true → q <ℤ (g *ℤ g)
farther o q g t = less_from q (g *ℤ g) (second_true (lt_z (pos 0) (o *ℤ g)) (lt_z q (g *ℤ g)) t)

-- a point outside a box that has the sphere lies outside the sphere, strictly
pub outside : (a b c d low high e : ℕ) → is_inside_box a b c d low high ≡ true → IsBeyond low high e →
    pos 0 <ℤ (orientation a b c d *ℤ sphere_polynomial a b c d e)
unfolding square_of_centre square_of_step distance dot low_gap high_gap x_from y_from z_from
outside a b c d low high e t m =
    let o = orientation a b c d in
    let q = square_of_centre a b c d in
    let n1 = cell_centre_x a b c d in
    let n2 = cell_centre_y a b c d in
    let n3 = cell_centre_z a b c d in
    let x_low = x_from a low in
    let x_high = x_from a high in
    let y_low = y_from a low in
    let y_high = y_from a high in
    let z_low = z_from a low in
    let z_high = z_from a high in
    let x_ends = is_inside_ends o q n1 (x_of low) (x_of high) x_low x_high in
    let y_ends = is_inside_ends o q n2 (y_of low) (y_of high) y_low y_high in
    let z_ends = is_inside_ends o q n3 (z_of low) (z_of high) z_low z_high in
    let xy_true = first_true (x_ends && y_ends) z_ends t in
    let x_true = first_true x_ends y_ends xy_true in
    let y_true = second_true x_ends y_ends xy_true in
    let z_true = second_true (x_ends && y_ends) z_ends t in
    let x_at_low = x_of low == 0 || is_clear o q (low_gap o n1 x_low) in
    let x_at_high = x_of high == 16383 || is_clear o q (high_gap o n1 x_high) in
    let y_at_low = y_of low == 0 || is_clear o q (low_gap o n2 y_low) in
    let y_at_high = y_of high == 16383 || is_clear o q (high_gap o n2 y_high) in
    let z_at_low = z_of low == 0 || is_clear o q (low_gap o n3 z_low) in
    let z_at_high = z_of high == 16383 || is_clear o q (high_gap o n3 z_high) in
    subst (λ p. pos 0 <ℤ (o *ℤ p)) (sym (by_centre a b c d e)) (elim m [
      | inl l ↦
          let g = low_gap o n1 x_low in
          let k = low_end (x_of low) (x_of e) (is_clear o q g) l (first_true x_at_low x_at_high x_true) in
          low1 o n1 n2 n3 (x_from a e) (y_from a e) (z_from a e) x_low (same_side o q g k) (farther o q g k)
          (under (x_of e) (x_of low) (x_of a) l)
      | inr r0 ↦ elim r0 [
        | inl l ↦
            let g = high_gap o n1 x_high in
            let k = high_end (x_of high) (x_of e) (is_clear o q g) (x_below e) l
            (second_true x_at_low x_at_high x_true) in
            high1 o n1 n2 n3 (x_from a e) (y_from a e) (z_from a e) x_high (same_side o q g k) (farther o q g k)
            (over (x_of e) (x_of high) (x_of a) l)
        | inr r1 ↦ elim r1 [
          | inl l ↦
              let g = low_gap o n2 y_low in
              let k = low_end (y_of low) (y_of e) (is_clear o q g) l (first_true y_at_low y_at_high y_true) in
              low2 o n1 n2 n3 (x_from a e) (y_from a e) (z_from a e) y_low (same_side o q g k) (farther o q g k)
              (under (y_of e) (y_of low) (y_of a) l)
          | inr r2 ↦ elim r2 [
            | inl l ↦
                let g = high_gap o n2 y_high in
                let k = high_end (y_of high) (y_of e) (is_clear o q g) (y_below e) l
                (second_true y_at_low y_at_high y_true) in
                high2 o n1 n2 n3 (x_from a e) (y_from a e) (z_from a e) y_high (same_side o q g k) (farther o q g k)
                (over (y_of e) (y_of high) (y_of a) l)
            | inr r3 ↦ elim r3 [
              | inl l ↦
                  let g = low_gap o n3 z_low in
                  let k = low_end (z_of low) (z_of e) (is_clear o q g) l (first_true z_at_low z_at_high z_true) in
                  low3 o n1 n2 n3 (x_from a e) (y_from a e) (z_from a e) z_low (same_side o q g k) (farther o q g k)
                  (under (z_of e) (z_of low) (z_of a) l)
              | inr l ↦
                  let g = high_gap o n3 z_high in
                  let k = high_end (z_of high) (z_of e) (is_clear o q g) (z_below e) l
                  (second_true z_at_low z_at_high z_true) in
                  high3 o n1 n2 n3 (x_from a e) (y_from a e) (z_from a e) z_high (same_side o q g k) (farther o q g k)
                  (over (z_of e) (z_of high) (z_of a) l)
            ]
          ]
        ]
      ]
    ])
