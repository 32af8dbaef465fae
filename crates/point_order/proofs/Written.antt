-- The definitions of the crate written as expressions, for equations that are proved by computing.
-- Point n of a list has the variables 3 n, 3 n + 1 and 3 n + 2 as its coordinates.
use Rattle.std.specs.Prelude.{ℕ, ◌+◌, ◌*◌, ℤ, pos, List, [], ◌∷◌}
use Rattle.whole_ring.specs.Poly.{Expr, var, ◌⊕◌, ◌⊖◌, ◌⊗◌}
use Rattle.point_order.specs.Coordinates.{x_of, y_of, z_of}

-- the coordinates of some points, in a row
abbrev pub coordinates : List ℕ → List ℤ
coordinates [] = []
coordinates (p ∷ ps) = pos (x_of p) ∷ pos (y_of p) ∷ pos (z_of p) ∷ coordinates ps

-- coordinate k of the step from point i to point j
abbrev pub step_w : ℕ → ℕ → ℕ → Expr
step_w k i j = var (3 * j + k) ⊖ var (3 * i + k)

-- the determinant of two rows
abbrev pub minor_w : Expr → Expr → Expr → Expr → Expr
minor_w p q r s = p ⊗ s ⊖ q ⊗ r

-- the determinant of three rows
abbrev pub triple_w : Expr → Expr → Expr → Expr → Expr → Expr → Expr → Expr → Expr → Expr
triple_w ux uy uz vx vy vz wx wy wz =
    ux ⊗ minor_w vy vz wy wz ⊕ uy ⊗ minor_w vz vx wz wx ⊕ uz ⊗ minor_w vx vy wx wy

-- the orientation of four points
abbrev pub orientation_w : ℕ → ℕ → ℕ → ℕ → Expr
orientation_w a b c d =
    triple_w (step_w 0 a b) (step_w 1 a b) (step_w 2 a b) (step_w 0 a c) (step_w 1 a c) (step_w 2 a c) (step_w 0 a d)
    (step_w 1 a d) (step_w 2 a d)

-- the square of a point's distance from the origin
abbrev pub square_w : ℕ → Expr
square_w p =
    var (3 * p) ⊗ var (3 * p) ⊕ var (3 * p + 1) ⊗ var (3 * p + 1) ⊕ var (3 * p + 2) ⊗ var (3 * p + 2)

-- the square of the distance of two points
abbrev pub distance_w : ℕ → ℕ → Expr
distance_w a p =
    step_w 0 a p ⊗ step_w 0 a p ⊕ step_w 1 a p ⊗ step_w 1 a p ⊕ step_w 2 a p ⊗ step_w 2 a p

-- the in-sphere polynomial of the points 0 to 4
abbrev pub sphere_w : Expr
sphere_w =
    orientation_w 0 1 2 3 ⊗ square_w 4 ⊖ orientation_w 0 1 2 4 ⊗ square_w 3 ⊕ orientation_w 0 1 3 4 ⊗ square_w 2
    ⊖ orientation_w 0 2 3 4 ⊗ square_w 1 ⊕ orientation_w 1 2 3 4 ⊗ square_w 0
