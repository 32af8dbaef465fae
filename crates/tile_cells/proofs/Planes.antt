-- An Open cell of a part of a set, where the other points lie in boxes above its plane.
use Rattle.std.specs.Prelude.{ℕ, ◌≤◌, ℤ, pos, ◌+ℤ◌, ◌-ℤ◌, ◌*ℤ◌, neg_ℤ, ◌≡◌, ◌≤ℤ◌, ◌<ℤ◌, [], ◌∷◌}
use Rattle.std.proofs.Common.{arith, inl, inr, subst, sym}
use Rattle.std.proofs.lemmas.Int.{ints}
use Rattle.whole_ring.specs.Poly.{var, ◌⊕◌, ◌⊖◌, ◌⊗◌, minus}
use Rattle.whole_ring.proofs.Cited.{ring, mul_nonneg}
use Rattle.list_laws.proofs.Cited.{below_or_not, not_zero, weak}
use Rattle.point_order.specs.Coordinates.{x_of, y_of, z_of}
use Rattle.point_order.specs.Orientation.{x_from, y_from, z_from, minor, triple, normal_x, normal_y, normal_z}
use Rattle.point_order.specs.Orientation.{orientation}
use Rattle.del_laws.proofs.CellFacts.{open_by_mate}
use Rattle.tile_cells.specs.Tiles.{Box, LiesIn, over_plane, IsAbove, AboveIsWhole}

-- products of a difference
parted : (m a b : ℤ) → m *ℤ (a -ℤ b) ≡ m *ℤ a -ℤ m *ℤ b
parted m a b = ring (var 0 ⊗ (var 1 ⊖ var 2)) (var 0 ⊗ var 1 ⊖ var 0 ⊗ var 2) (m ∷ a ∷ b ∷ []) tt

turned : (m a b : ℤ) → neg_ℤ m *ℤ (a -ℤ b) ≡ m *ℤ b -ℤ m *ℤ a
turned m a b = ring (minus (var 0) ⊗ (var 1 ⊖ var 2)) (var 0 ⊗ var 2 ⊖ var 0 ⊗ var 1) (m ∷ a ∷ b ∷ []) tt

-- a linear function that is positive at both ends is so between them
between : (m l h x r : ℤ) → l ≤ℤ x → x ≤ℤ h → pos 0 <ℤ (m *ℤ l +ℤ r) → pos 0 <ℤ (m *ℤ h +ℤ r) →
    pos 0 <ℤ (m *ℤ x +ℤ r)
between m l h x r i j p q = elim (below_or_not m) [
  | inl n ↦ omega (
    arith,
    ints,
    q,
    turned m h x,
    mul_nonneg (neg_ℤ m) (h -ℤ x) (omega (arith, ints, n))
        (omega (arith, ints, j)),
  )
  | inr n ↦ omega (arith, ints, p, parted m x l, mul_nonneg m (x -ℤ l) n (omega (arith, ints, i)))
]

-- the same along one axis, the sums as they stand
first : (p l h x y z : ℤ) → l ≤ℤ x → x ≤ℤ h → pos 0 <ℤ (p *ℤ l +ℤ y +ℤ z) → pos 0 <ℤ (p *ℤ h +ℤ y +ℤ z) →
    pos 0 <ℤ (p *ℤ x +ℤ y +ℤ z)
first p l h x y z i j a b =
    let k = between p l h x (y +ℤ z) i j (omega (arith, ints, a)) (omega (arith, ints, b)) in omega (arith, ints, k)

second : (p l h x y z : ℤ) → l ≤ℤ x → x ≤ℤ h → pos 0 <ℤ (y +ℤ p *ℤ l +ℤ z) → pos 0 <ℤ (y +ℤ p *ℤ h +ℤ z) →
    pos 0 <ℤ (y +ℤ p *ℤ x +ℤ z)
second p l h x y z i j a b =
    let k = between p l h x (y +ℤ z) i j (omega (arith, ints, a)) (omega (arith, ints, b)) in omega (arith, ints, k)

third : (p l h x y z : ℤ) → l ≤ℤ x → x ≤ℤ h → pos 0 <ℤ (y +ℤ z +ℤ p *ℤ l) → pos 0 <ℤ (y +ℤ z +ℤ p *ℤ h) →
    pos 0 <ℤ (y +ℤ z +ℤ p *ℤ x)
third p l h x y z i j a b =
    let k = between p l h x (y +ℤ z) i j (omega (arith, ints, a)) (omega (arith, ints, b)) in omega (arith, ints, k)

-- the way of a coordinate from another rises with it
rises : (k e a : ℕ) → k ≤ e → (pos k -ℤ pos a) ≤ℤ (pos e -ℤ pos a)
rises k e a l = omega (arith, ints)

-- the orientation is the height
turned_last : (ux uy uz vx vy vz tx ty tz : ℤ) →
    triple ux uy uz vx vy vz tx ty tz
    ≡ minor uy uz vy vz *ℤ tx +ℤ minor uz ux vz vx *ℤ ty +ℤ minor ux uy vx vy *ℤ tz
unfolding triple minor
turned_last ux uy uz vx vy vz tx ty tz =
    ring
    (var 0 ⊗ (var 4 ⊗ var 8 ⊖ var 5 ⊗ var 7) ⊕ var 1 ⊗ (var 5 ⊗ var 6 ⊖ var 3 ⊗ var 8)
    ⊕ var 2 ⊗ (var 3 ⊗ var 7 ⊖ var 4 ⊗ var 6))
    ((var 1 ⊗ var 5 ⊖ var 2 ⊗ var 4) ⊗ var 6 ⊕ (var 2 ⊗ var 3 ⊖ var 0 ⊗ var 5) ⊗ var 7
    ⊕ (var 0 ⊗ var 4 ⊖ var 1 ⊗ var 3) ⊗ var 8)
    (ux ∷ uy ∷ uz ∷ vx ∷ vy ∷ vz ∷ tx ∷ ty ∷ tz ∷ []) tt

height_of : (a b c e : ℕ) → orientation a b c e ≡ over_plane a b c (x_of e) (y_of e) (z_of e)
unfolding orientation over_plane normal_x normal_y normal_z x_from y_from z_from
height_of a b c e =
    turned_last (x_from a b) (y_from a b) (z_from a b) (x_from a c) (y_from a c) (z_from a c) (x_from a e) (y_from a e)
    (z_from a e)

-- a point of a box above the plane is above it
above : (a b c e : ℕ) (k : Box) → IsAbove a b c k → LiesIn k e → pos 0 <ℤ orientation a b c e
unfolding over_plane
above a b c e k u m =
    let n1 = normal_x a b c in
    let n2 = normal_y a b c in
    let n3 = normal_z a b c in
    let x = pos (x_of e) -ℤ pos (x_of a) in
    let y = pos (y_of e) -ℤ pos (y_of a) in
    let z = pos (z_of e) -ℤ pos (z_of a) in
    let x0 = pos (x_of k.low) -ℤ pos (x_of a) in
    let x1 = pos (x_of k.high) -ℤ pos (x_of a) in
    let y0 = pos (y_of k.low) -ℤ pos (y_of a) in
    let y1 = pos (y_of k.high) -ℤ pos (y_of a) in
    let z0 = pos (z_of k.low) -ℤ pos (z_of a) in
    let z1 = pos (z_of k.high) -ℤ pos (z_of a) in
    let i0 = rises (x_of k.low) (x_of e) (x_of a) m.x_low in
    let i1 = rises (x_of e) (x_of k.high) (x_of a) m.x_high in
    let j0 = rises (y_of k.low) (y_of e) (y_of a) m.y_low in
    let j1 = rises (y_of e) (y_of k.high) (y_of a) m.y_high in
    let l0 = rises (z_of k.low) (z_of e) (z_of a) m.z_low in
    let l1 = rises (z_of e) (z_of k.high) (z_of a) m.z_high in
    let a00 = first n1 x0 x1 x (n2 *ℤ y0) (n3 *ℤ z0) i0 i1 u.low_low_low u.high_low_low in
    let a01 = first n1 x0 x1 x (n2 *ℤ y0) (n3 *ℤ z1) i0 i1 u.low_low_high u.high_low_high in
    let a10 = first n1 x0 x1 x (n2 *ℤ y1) (n3 *ℤ z0) i0 i1 u.low_high_low u.high_high_low in
    let a11 = first n1 x0 x1 x (n2 *ℤ y1) (n3 *ℤ z1) i0 i1 u.low_high_high u.high_high_high in
    let b0 = second n2 y0 y1 y (n1 *ℤ x) (n3 *ℤ z0) j0 j1 a00 a10 in
    let b1 = second n2 y0 y1 y (n1 *ℤ x) (n3 *ℤ z1) j0 j1 a01 a11 in
    subst (λ p. pos 0 <ℤ p) (sym (height_of a b c e)) (third n3 z0 z1 z (n1 *ℤ x) (n2 *ℤ y) l0 l1 b0 b1)

-- the law AboveIsWhole
pub above_is_whole : AboveIsWhole
above_is_whole h t s boxes a b c part others over F =
    open_by_mate (part a F.has_a) (part b F.has_b) (part c F.has_c) F.mate (part F.mate F.has_mate) F.above
    (λ e m. elim (others e m) [
      | inl i ↦ F.bounds e i
      | inr i ↦ weak (orientation a b c e) (above a b c e i.0 (over i.0 i.1) i.2)
    ])
    (λ e m z. elim (others e m) [
      | inl i ↦ F.ties F.mate e F.has_mate i F.above z
      | inr i ↦ absurd (not_zero (orientation a b c e) (above a b c e i.0 (over i.0 i.1) i.2) z)
    ])
