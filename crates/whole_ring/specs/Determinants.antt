-- Determinants of two and of three rows.
use Rattle.std.specs.Prelude.{ℤ, ◌+ℤ◌, ◌-ℤ◌, ◌*ℤ◌}

-- the determinant of two rows, (p, q) and (r, s)
unfoldable pub minor : ℤ → ℤ → ℤ → ℤ → ℤ
minor p q r s = p *ℤ s -ℤ q *ℤ r

-- the determinant of three rows, u . (v x w)
unfoldable pub triple : ℤ → ℤ → ℤ → ℤ → ℤ → ℤ → ℤ → ℤ → ℤ → ℤ
triple ux uy uz vx vy vz wx wy wz =
    ux *ℤ minor vy vz wy wz +ℤ uy *ℤ minor vz vx wz wx +ℤ uz *ℤ minor vx vy wx wy
