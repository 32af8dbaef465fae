-- The power of a point to the sphere of a triangle, by normals.
use Rattle.std.specs.Prelude.{ℕ, ℤ, ◌+ℤ◌, ◌-ℤ◌, ◌*ℤ◌, ◌≡◌, [], ◌∷◌}
use Rattle.whole_ring.specs.Poly.{Expr, var, ◌⊕◌, ◌⊖◌, ◌⊗◌}
use Rattle.whole_ring.proofs.Cited.{ring}
use Rattle.point_order.specs.Orientation.{x_from, y_from, z_from, minor, normal_x, normal_y, normal_z, distance}
use Rattle.small_spheres.specs.Inside.{dot, square_of_normal, centre_x, centre_y, centre_z, triangle_power}

-- the determinant of two rows, written
abbrev minor_w : Expr → Expr → Expr → Expr → Expr
minor_w p q r s = p ⊗ s ⊖ q ⊗ r

-- the scalar product, written
abbrev dot_w : Expr → Expr → Expr → Expr → Expr → Expr → Expr
dot_w ux uy uz vx vy vz = ux ⊗ vx ⊕ uy ⊗ vy ⊕ uz ⊗ vz

-- t . (p (n x u) + q (v x n)) = p (n . (u x t)) + q (n . (t x v)), both taken from the product of two numbers
turned : (d m p q nx ny nz ux uy uz vx vy vz tx ty tz : ℤ) →
    d *ℤ m -ℤ dot tx ty tz (p *ℤ minor ny nz uy uz +ℤ q *ℤ minor vy vz ny nz)
    (p *ℤ minor nz nx uz ux +ℤ q *ℤ minor vz vx nz nx) (p *ℤ minor nx ny ux uy +ℤ q *ℤ minor vx vy nx ny) ≡ d *ℤ m -ℤ p
    *ℤ dot nx ny nz (minor uy uz ty tz) (minor uz ux tz tx) (minor ux uy tx ty) -ℤ q *ℤ dot nx ny nz (minor ty tz vy vz)
    (minor tz tx vz vx) (minor tx ty vx vy)
unfolding dot minor
turned d m p q nx ny nz ux uy uz vx vy vz tx ty tz =
    ring
    (var 0 ⊗ var 1
    ⊖ dot_w (var 13) (var 14) (var 15)
    (var 2 ⊗ minor_w (var 5) (var 6) (var 8) (var 9) ⊕ var 3 ⊗ minor_w (var 11) (var 12) (var 5) (var 6))
    (var 2 ⊗ minor_w (var 6) (var 4) (var 9) (var 7) ⊕ var 3 ⊗ minor_w (var 12) (var 10) (var 6) (var 4))
    (var 2 ⊗ minor_w (var 4) (var 5) (var 7) (var 8) ⊕ var 3 ⊗ minor_w (var 10) (var 11) (var 4) (var 5)))
    (var 0 ⊗ var 1
    ⊖ var 2 ⊗ dot_w (var 4) (var 5) (var 6) (minor_w (var 8) (var 9) (var 14) (var 15))
    (minor_w (var 9) (var 7) (var 15) (var 13)) (minor_w (var 7) (var 8) (var 13) (var 14))
    ⊖ var 3 ⊗ dot_w (var 4) (var 5) (var 6) (minor_w (var 14) (var 15) (var 11) (var 12))
    (minor_w (var 15) (var 13) (var 12) (var 10)) (minor_w (var 13) (var 14) (var 10) (var 11)))
    (d ∷ m ∷ p ∷ q ∷ nx ∷ ny ∷ nz ∷ ux ∷ uy ∷ uz ∷ vx ∷ vy ∷ vz ∷ tx ∷ ty ∷ tz ∷ []) tt

-- the power of e to the sphere of the triangle, times |n|^2: each term is a square times a scalar product of two
-- normals
pub by_normals : (a b c e : ℕ) → triangle_power a b c e ≡ distance a e *ℤ square_of_normal a b c -ℤ distance a c *ℤ dot
    (normal_x a b c) (normal_y a b c) (normal_z a b c) (normal_x a b e) (normal_y a b e) (normal_z a b e) -ℤ distance a
    b *ℤ dot (normal_x a b c) (normal_y a b c) (normal_z a b c) (normal_x a e c) (normal_y a e c) (normal_z a e c)
unfolding triangle_power centre_x centre_y centre_z normal_x normal_y normal_z
by_normals a b c e =
    turned (distance a e) (square_of_normal a b c) (distance a c) (distance a b) (normal_x a b c) (normal_y a b c)
    (normal_z a b c)
    (x_from a b) (y_from a b) (z_from a b) (x_from a c) (y_from a c) (z_from a c) (x_from a e) (y_from a e) (z_from a e)
