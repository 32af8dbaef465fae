-- Points of one plane and of one line: no four of them are independent.
use Rattle.std.specs.Prelude.{ℤ, pos, Bool, true, false, ◌&&◌, ◌≡◌, ◌≢◌, ℕ, ◌+◌, ◌*◌, ◌+ℤ◌, ◌*ℤ◌, List, [], ◌∷◌}
use Rattle.std.proofs.Common.{arith, lit<, w64, nat_eq, to_z, of_z, refl, sym, ◌∙◌, ap}
use Rattle.std.proofs.lemmas.Int.{ints, to_z-of_z}
use Rattle.std.proofs.lemmas.Bool.Decides.{nat_tests}
use Rattle.whole_ring.specs.Bounds.{IsWithin}
use Rattle.whole_ring.proofs.Cited.{ring, ring_from, within_fits}
use Rattle.whole_ring.specs.Poly.{Expr, Given, var, lit, ◌⊕◌, ◌⊖◌, ◌⊗◌, minus, given, nothing}
use Rattle.list_laws.proofs.Cited.{other_factor}
use Rattle.point_order.specs.Coordinates.{x_of, y_of, z_of, IsKey}
use Rattle.point_order.specs.Orientation.{is_zero, is_flat, is_collinear, x_from, y_from, z_from, minor, triple}
use Rattle.point_order.specs.Orientation.{orientation, normal_x, normal_y, normal_z}
use Rattle.point_order.proofs.Cited.{key_is, not_zero, zero_from, zero_true}

-- ---- the words of orientation, written: point i of a list has the variables 3i, 3i + 1 and 3i + 2

-- the coordinates of the points of a list, one after another
abbrev onto : List ℕ → List ℤ
onto [] = []
onto (p ∷ ps) = pos (x_of p) ∷ pos (y_of p) ∷ pos (z_of p) ∷ onto ps

-- the step from point i to point j along x
abbrev dx : ℕ → ℕ → Expr
dx i j = var (3 * j) ⊖ var (3 * i)

-- along y
abbrev dy : ℕ → ℕ → Expr
dy i j = var (3 * j + 1) ⊖ var (3 * i + 1)

-- along z
abbrev dz : ℕ → ℕ → Expr
dz i j = var (3 * j + 2) ⊖ var (3 * i + 2)

-- the determinant of two steps from point a, seen along one axis
abbrev minor_w : (ℕ → ℕ → Expr) → (ℕ → ℕ → Expr) → ℕ → ℕ → ℕ → Expr
minor_w u v a b c = u a b ⊗ v a c ⊖ v a b ⊗ u a c

-- the orientation of four points
abbrev orient_w : ℕ → ℕ → ℕ → ℕ → Expr
orient_w a b c d = dx a b ⊗ minor_w dy dz a c d ⊕ dy a b ⊗ minor_w dz dx a c d ⊕ dz a b ⊗ minor_w dx dy a c d

-- the word of 0
abbrev nil : Expr
nil = lit (pos 0)

-- ---- a point of the three is in their plane

-- a point of the line of a and b is in each plane with them
pub flat_line : (a b c d : ℕ) → normal_x a b d ≡ pos 0 → normal_y a b d ≡ pos 0 → normal_z a b d ≡ pos 0 →
    orientation a b c d ≡ pos 0
unfolding orientation triple minor normal_x normal_y normal_z x_from y_from z_from
flat_line a b c d hx hy hz =
    ring_from (orient_w 0 1 2 3) nil
    (given (minus (dx 0 2)) (minor_w dy dz 0 1 3) nil (given (minus (dy 0 2)) (minor_w dz dx 0 1 3) nil
    (given (minus (dz 0 2)) (minor_w dx dy 0 1 3) nil nothing)))
    (onto (a ∷ b ∷ c ∷ d ∷ [])) (hx, (hy, (hz, tt))) tt

-- ---- four points in the plane of a, b and c: a part of the normal times their orientation is 0

-- what the orientations with the three points of the plane are taken times, seen along one axis
abbrev rim : (ℕ → ℕ → Expr) → (ℕ → ℕ → Expr) → Expr
rim u v = minor_w u v 3 5 6 ⊕ minor_w u v 3 6 4 ⊕ minor_w u v 3 4 5

-- the part of the normal along x times the orientation of four points of the plane is 0
pub plane_x : (a b c p q r t : ℕ) → orientation a b c p ≡ pos 0 → orientation a b c q ≡ pos 0 →
    orientation a b c r ≡ pos 0 → orientation a b c t ≡ pos 0
    → normal_x a b c *ℤ orientation p q r t ≡ pos 0
unfolding orientation triple minor normal_x x_from y_from z_from
plane_x a b c p q r t hp hq hr ht =
    ring_from (minor_w dy dz 0 1 2 ⊗ orient_w 3 4 5 6) nil
    (given (minus (rim dy dz)) (orient_w 0 1 2 3) nil (given (minor_w dy dz 3 5 6) (orient_w 0 1 2 4) nil
    (given (minor_w dy dz 3 6 4) (orient_w 0 1 2 5) nil (given (minor_w dy dz 3 4 5) (orient_w 0 1 2 6) nil nothing))))
    (onto (a ∷ b ∷ c ∷ p ∷ q ∷ r ∷ t ∷ [])) (hp, (hq, (hr, (ht, tt)))) tt

-- so is the part along y
pub plane_y : (a b c p q r t : ℕ) → orientation a b c p ≡ pos 0 → orientation a b c q ≡ pos 0 →
    orientation a b c r ≡ pos 0 → orientation a b c t ≡ pos 0
    → normal_y a b c *ℤ orientation p q r t ≡ pos 0
unfolding orientation triple minor normal_y x_from y_from z_from
plane_y a b c p q r t hp hq hr ht =
    ring_from (minor_w dz dx 0 1 2 ⊗ orient_w 3 4 5 6) nil
    (given (minus (rim dz dx)) (orient_w 0 1 2 3) nil (given (minor_w dz dx 3 5 6) (orient_w 0 1 2 4) nil
    (given (minor_w dz dx 3 6 4) (orient_w 0 1 2 5) nil (given (minor_w dz dx 3 4 5) (orient_w 0 1 2 6) nil nothing))))
    (onto (a ∷ b ∷ c ∷ p ∷ q ∷ r ∷ t ∷ [])) (hp, (hq, (hr, (ht, tt)))) tt

-- and the part along z
pub plane_z : (a b c p q r t : ℕ) → orientation a b c p ≡ pos 0 → orientation a b c q ≡ pos 0 →
    orientation a b c r ≡ pos 0 → orientation a b c t ≡ pos 0
    → normal_z a b c *ℤ orientation p q r t ≡ pos 0
unfolding orientation triple minor normal_z x_from y_from z_from
plane_z a b c p q r t hp hq hr ht =
    ring_from (minor_w dx dy 0 1 2 ⊗ orient_w 3 4 5 6) nil
    (given (minus (rim dx dy)) (orient_w 0 1 2 3) nil (given (minor_w dx dy 3 5 6) (orient_w 0 1 2 4) nil
    (given (minor_w dx dy 3 6 4) (orient_w 0 1 2 5) nil (given (minor_w dx dy 3 4 5) (orient_w 0 1 2 6) nil nothing))))
    (onto (a ∷ b ∷ c ∷ p ∷ q ∷ r ∷ t ∷ [])) (hp, (hq, (hr, (ht, tt)))) tt

-- ---- four points in one line with a and b: the square of a part of the step from a to b times their orientation is 0

-- what the two parts of a normal that do not go along an axis are taken times
abbrev line_given : (ℕ → ℕ → Expr) → (ℕ → Expr) → (ℕ → Expr) → Given
line_given d m n =
    let m3 = m 3 ⊖ m 2 in
    let n3 = n 3 ⊖ n 2 in
    let m5 = m 5 ⊖ m 2 in
    let n5 = n 5 ⊖ n 2 in
    let f = minus (d 2 4 ⊗ n5) in
    let g = d 2 4 ⊗ m5 in
    let h = d 2 3 ⊗ n5 ⊖ d 2 5 ⊗ n3 in
    let k = d 2 5 ⊗ m3 ⊖ d 2 3 ⊗ m5 in
    given f (m 3) nil (given g (n 3) nil (given h (m 4) nil (given k (n 4) nil
    (given (minus (f ⊕ h)) (m 2) nil (given (minus (g ⊕ k)) (n 2) nil nothing)))))

-- a point of the line of a and b
pub record IsOnLine (a b p : ℕ) : Type 0 where
  pub x : normal_x a b p ≡ pos 0
  pub y : normal_y a b p ≡ pos 0
  pub z : normal_z a b p ≡ pos 0

-- the part of the step along x, squared, times the orientation of three points of the line and any other is 0
pub line_x : (a b p q r t : ℕ) → IsOnLine a b p → IsOnLine a b q → IsOnLine a b r →
    x_from a b *ℤ (x_from a b *ℤ orientation p q r t) ≡ pos 0
unfolding orientation triple minor normal_x normal_y normal_z x_from y_from z_from
line_x a b p q r t hp hq hr =
    ring_from (dx 0 1 ⊗ (dx 0 1 ⊗ orient_w 2 3 4 5)) nil (line_given dx (minor_w dz dx 0 1) (minor_w dx dy 0 1))
    (onto (a ∷ b ∷ p ∷ q ∷ r ∷ t ∷ [])) (hq.y, (hq.z, (hr.y, (hr.z, (hp.y, (hp.z, tt)))))) tt

-- so is the part along y
pub line_y : (a b p q r t : ℕ) → IsOnLine a b p → IsOnLine a b q → IsOnLine a b r →
    y_from a b *ℤ (y_from a b *ℤ orientation p q r t) ≡ pos 0
unfolding orientation triple minor normal_x normal_y normal_z x_from y_from z_from
line_y a b p q r t hp hq hr =
    ring_from (dy 0 1 ⊗ (dy 0 1 ⊗ orient_w 2 3 4 5)) nil (line_given dy (minor_w dx dy 0 1) (minor_w dy dz 0 1))
    (onto (a ∷ b ∷ p ∷ q ∷ r ∷ t ∷ [])) (hq.z, (hq.x, (hr.z, (hr.x, (hp.z, (hp.x, tt)))))) tt

-- and the part along z
pub line_z : (a b p q r t : ℕ) → IsOnLine a b p → IsOnLine a b q → IsOnLine a b r →
    z_from a b *ℤ (z_from a b *ℤ orientation p q r t) ≡ pos 0
unfolding orientation triple minor normal_x normal_y normal_z x_from y_from z_from
line_z a b p q r t hp hq hr =
    ring_from (dz 0 1 ⊗ (dz 0 1 ⊗ orient_w 2 3 4 5)) nil (line_given dz (minor_w dy dz 0 1) (minor_w dz dx 0 1))
    (onto (a ∷ b ∷ p ∷ q ∷ r ∷ t ∷ [])) (hq.x, (hq.y, (hr.x, (hr.y, (hp.x, (hp.y, tt)))))) tt

-- ---- what the tests say

-- a point that the test of collinear points passes is on the line of a and b
pub on_line : (a b p : ℕ) → is_collinear a b p ≡ true → IsOnLine a b p
on_line a b p e =
    parts (is_zero (normal_x a b p)) (is_zero (normal_y a b p)) (is_zero (normal_z a b p)) refl refl refl e
  where
    parts : (f g h : Bool) → is_zero (normal_x a b p) ≡ f → is_zero (normal_y a b p) ≡ g →
        is_zero (normal_z a b p) ≡ h → (f && g && h) ≡ true → IsOnLine a b p
    parts true true true i j k e =
        record { x = zero_from (normal_x a b p) i; y = zero_from (normal_y a b p) j; z = zero_from (normal_z a b p) k }
    parts true true false i j k e = cc
    parts true false h i j k e = cc
    parts false g h i j k e = cc

-- a point of the line of a and b is in the plane of a, b and c
pub flat_on_line : (a b c d : ℕ) → is_collinear a b d ≡ true → is_flat a b c d ≡ true
flat_on_line a b c d e = let l = on_line a b d e in zero_true (orientation a b c d) (flat_line a b c d l.x l.y l.z)

-- four points in the plane of three that are not on one line
pub flat_in_plane : (a b c p q r t : ℕ) → is_collinear a b c ≡ false → is_flat a b c p ≡ true → is_flat a b c q ≡ true →
    is_flat a b c r ≡ true → is_flat a b c t ≡ true → is_flat p q r t ≡ true
flat_in_plane a b c p q r t n hp hq hr ht =
    zero_true (orientation p q r t) (parts (is_zero (normal_x a b c)) (is_zero (normal_y a b c))
    (is_zero (normal_z a b c)) refl refl refl n)
  where
    ep : orientation a b c p ≡ pos 0
    ep = zero_from (orientation a b c p) hp

    eq : orientation a b c q ≡ pos 0
    eq = zero_from (orientation a b c q) hq

    er : orientation a b c r ≡ pos 0
    er = zero_from (orientation a b c r) hr

    et : orientation a b c t ≡ pos 0
    et = zero_from (orientation a b c t) ht

    parts : (f g h : Bool) → is_zero (normal_x a b c) ≡ f → is_zero (normal_y a b c) ≡ g →
        is_zero (normal_z a b c) ≡ h → (f && g && h) ≡ false → orientation p q r t ≡ pos 0
    parts true true true i j k e = cc
    parts true true false i j k e =
        other_factor (normal_z a b c) (orientation p q r t) (not_zero (normal_z a b c) k)
        (plane_z a b c p q r t ep eq er et)
    parts true false h i j k e =
        other_factor (normal_y a b c) (orientation p q r t) (not_zero (normal_y a b c) j)
        (plane_y a b c p q r t ep eq er et)
    parts false g h i j k e =
        other_factor (normal_x a b c) (orientation p q r t) (not_zero (normal_x a b c) i)
        (plane_x a b c p q r t ep eq er et)

-- two keys with the same coordinates are one
same_key : (a b : ℕ) → IsKey a → IsKey b → x_from a b ≡ pos 0 → y_from a b ≡ pos 0 → z_from a b ≡ pos 0 → a ≡ b
unfolding x_from y_from z_from
same_key a b h k ex ey ez =
    let fx : x_of a ≡ x_of b = omega (arith, ints) in
    let fy : y_of a ≡ y_of b = omega (arith, ints) in
    let fz : z_of a ≡ z_of b = omega (arith, ints) in
    omega (arith, key_is a h, key_is b k)

-- points on one line with two distinct points
pub flat_in_line : (a b p q r t : ℕ) → IsKey a → IsKey b → a ≢ b → is_collinear a b p ≡ true →
    is_collinear a b q ≡ true → is_collinear a b r ≡ true → is_flat p q r t ≡ true
flat_in_line a b p q r t h k n ep eq er =
    zero_true (orientation p q r t) (parts (is_zero (x_from a b)) (is_zero (y_from a b)) (is_zero (z_from a b)) refl
    refl refl)
  where
    lp : IsOnLine a b p
    lp = on_line a b p ep

    lq : IsOnLine a b q
    lq = on_line a b q eq

    lr : IsOnLine a b r
    lr = on_line a b r er

    twice : (d o : ℤ) → d ≢ pos 0 → d *ℤ (d *ℤ o) ≡ pos 0 → o ≡ pos 0
    twice d o m e = other_factor d o m (other_factor d (d *ℤ o) m e)

    parts : (f g i : Bool) → is_zero (x_from a b) ≡ f → is_zero (y_from a b) ≡ g → is_zero (z_from a b) ≡ i →
        orientation p q r t ≡ pos 0
    parts true true true ex ey ez =
        absurd (n (same_key a b h k (zero_from (x_from a b) ex) (zero_from (y_from a b) ey)
        (zero_from (z_from a b) ez)))
    parts true true false ex ey ez =
        twice (z_from a b) (orientation p q r t) (not_zero (z_from a b) ez) (line_z a b p q r t lp lq lr)
    parts true false i ex ey ez =
        twice (y_from a b) (orientation p q r t) (not_zero (y_from a b) ey) (line_y a b p q r t lp lq lr)
    parts false g i ex ey ez =
        twice (x_from a b) (orientation p q r t) (not_zero (x_from a b) ex) (line_x a b p q r t lp lq lr)

-- a and b are on their line
pub collinear_first : (a b : ℕ) → is_collinear a b a ≡ true
unfolding minor normal_x normal_y normal_z x_from y_from z_from
collinear_first a b =
    rw (
      zero_true (normal_x a b a) (ring (minor_w dy dz 0 1 0) nil (onto (a ∷ b ∷ [])) tt),
      zero_true (normal_y a b a) (ring (minor_w dz dx 0 1 0) nil (onto (a ∷ b ∷ [])) tt),
      zero_true (normal_z a b a) (ring (minor_w dx dy 0 1 0) nil (onto (a ∷ b ∷ [])) tt),
    ) refl

-- b too
pub collinear_second : (a b : ℕ) → is_collinear a b b ≡ true
unfolding minor normal_x normal_y normal_z x_from y_from z_from
collinear_second a b =
    rw (
      zero_true (normal_x a b b) (ring (minor_w dy dz 0 1 1) nil (onto (a ∷ b ∷ [])) tt),
      zero_true (normal_y a b b) (ring (minor_w dz dx 0 1 1) nil (onto (a ∷ b ∷ [])) tt),
      zero_true (normal_z a b b) (ring (minor_w dx dy 0 1 1) nil (onto (a ∷ b ∷ [])) tt),
    ) refl

-- ---- orientation and the normal, from steps between the points

-- a step from a to b, by its coordinates
pub record IsStep (a b : ℕ) (x y z : ℤ) : Type 0 where
  pub x_is : x ≡ x_from a b
  pub y_is : y ≡ y_from a b
  pub z_is : z ≡ z_from a b

-- four points are in one plane exactly where the determinant of the steps from a to the others is 0
pub flat_steps : (a b c d : ℕ) (r ux uy uz vx vy vz wx wy wz : ℤ) → IsStep a b ux uy uz → IsStep a c vx vy vz →
    IsStep a d wx wy wz → r ≡ triple ux uy uz vx vy vz wx wy wz → is_zero r ≡ is_flat a b c d
unfolding orientation
flat_steps a b c d r ux uy uz vx vy vz wx wy wz u v w e =
    let f : r ≡ triple (x_from a b) (y_from a b) (z_from a b) (x_from a c) (y_from a c) (z_from a c) (x_from a d)
    (y_from a d) (z_from a d) =
    e ∙ rw (u.x_is, u.y_is, u.z_is, v.x_is, v.y_is, v.z_is, w.x_is, w.y_is, w.z_is) refl in
    ap is_zero f

-- of three numbers, times 1, 0 and 0, the first is left
along_x : (m n o : ℤ) → pos 1 *ℤ m +ℤ pos 0 *ℤ n +ℤ pos 0 *ℤ o ≡ m
along_x m n o = ring (lit (pos 1) ⊗ var 0 ⊕ lit (pos 0) ⊗ var 1 ⊕ lit (pos 0) ⊗ var 2) (var 0) (m ∷ n ∷ o ∷ []) tt

-- times 0, 1 and 0 the second
along_y : (m n o : ℤ) → pos 0 *ℤ m +ℤ pos 1 *ℤ n +ℤ pos 0 *ℤ o ≡ n
along_y m n o = ring (lit (pos 0) ⊗ var 0 ⊕ lit (pos 1) ⊗ var 1 ⊕ lit (pos 0) ⊗ var 2) (var 1) (m ∷ n ∷ o ∷ []) tt

-- times 0, 0 and 1 the third
along_z : (m n o : ℤ) → pos 0 *ℤ m +ℤ pos 0 *ℤ n +ℤ pos 1 *ℤ o ≡ o
along_z m n o = ring (lit (pos 0) ⊗ var 0 ⊕ lit (pos 0) ⊗ var 1 ⊕ lit (pos 1) ⊗ var 2) (var 2) (m ∷ n ∷ o ∷ []) tt

-- three points are on one line exactly where the determinants of the two steps with the axes are 0
pub normal_steps : (a b c : ℕ) (x y z ux uy uz vx vy vz : ℤ) → IsStep a b ux uy uz → IsStep a c vx vy vz
    → x ≡ triple (pos 1) (pos 0) (pos 0) ux uy uz vx vy vz → y ≡ triple (pos 0) (pos 1) (pos 0) ux uy uz vx vy vz →
    z ≡ triple (pos 0) (pos 0) (pos 1) ux uy uz vx vy vz
    → (is_zero x && is_zero y && is_zero z) ≡ is_collinear a b c
unfolding triple normal_x normal_y normal_z
normal_steps a b c x y z ux uy uz vx vy vz u v ex ey ez =
    let fx : x ≡ normal_x a b c = ex ∙ along_x (minor uy uz vy vz) (minor uz ux vz vx) (minor ux uy vx vy)
    ∙ rw (u.y_is, u.z_is, v.y_is, v.z_is) refl in
    let fy : y ≡ normal_y a b c = ey ∙ along_y (minor uy uz vy vz) (minor uz ux vz vx) (minor ux uy vx vy)
    ∙ rw (u.x_is, u.z_is, v.x_is, v.z_is) refl in
    let fz : z ≡ normal_z a b c = ez ∙ along_z (minor uy uz vy vz) (minor uz ux vz vx) (minor ux uy vx vy)
    ∙ rw (u.x_is, u.y_is, v.x_is, v.y_is) refl in
    rw (fx, fy, fz) refl

-- ---- a determinant as a word of 64 bits

-- a number of such a size is what its word says
pub read_back : (z : ℤ) → IsWithin 26383447523322 z → to_z w64 (of_z w64 z) ≡ z
read_back z h = to_z-of_z w64 z (within_fits w64 h (lit< tt))

-- the test of the word is the test of the number
pub zero_test : (z : ℤ) → IsWithin 26383447523322 z → nat_eq (of_z w64 z) 0 ≡ is_zero z
zero_test z h = by (nat_eq (of_z w64 z) 0) (is_zero z) refl refl
  where
    by : (f g : Bool) → nat_eq (of_z w64 z) 0 ≡ f → is_zero z ≡ g → f ≡ g
    by true true e k = refl
    by false false e k = refl
    by true false e k =
        let n : of_z w64 z ≡ 0 = grind (arith, nat_tests) in
        let q : z ≡ pos 0 = sym (read_back z h) ∙ ap (to_z w64) n in
        absurd (not_zero z k q)
    by false true e k =
        let q : of_z w64 z ≡ 0 = ap (of_z w64) (zero_from z k) in
        absurd (grind (arith, nat_tests))
