-- Signs of three points of one pencil: the planes or spheres through three given points.
use Rattle.std.specs.Prelude.{ℤ, pos, ◌+ℤ◌, ◌-ℤ◌, ◌*ℤ◌, neg_ℤ, ◌≡◌, ◌≤ℤ◌, ◌<ℤ◌, [], ◌∷◌}
use Rattle.std.proofs.Common.{arith, sym}
use Rattle.std.proofs.lemmas.Int.{ints}
use Rattle.whole_ring.specs.Poly.{Expr, var, lit, ◌⊕◌, ◌⊗◌, minus, ◌⊖◌, nothing, given, end, part}
use Rattle.whole_ring.proofs.Cited.{nonneg_from}

-- The relation of three points x, y, z of one pencil: with u the orientation of a point with a, b, c, and W the lifted
-- determinant of two of them with a, b, c, it is ux Wyz - uy Wxz + uz Wxy = 0.
abbrev pub relation : Expr
relation = var 0 ⊗ var 5 ⊖ var 1 ⊗ var 4 ⊕ var 2 ⊗ var 3

-- the sign of Wyz where y is below the plane and z is not
pub beyond : (ux uy uz xy xz yz : ℤ) → ux *ℤ yz -ℤ uy *ℤ xz +ℤ uz *ℤ xy ≡ pos 0 → pos 0 <ℤ ux → uy ≤ℤ pos 0 →
    pos 0 ≤ℤ uz → pos 0 ≤ℤ xy → pos 0 ≤ℤ xz → pos 0 ≤ℤ neg_ℤ yz
beyond ux uy uz xy xz yz e px ny nz p q =
    let n : pos 0 ≤ℤ neg_ℤ uy = omega (arith, ints) in
    nonneg_from (var 0) (minus (var 5)) (part (var 2) (var 3) (end (minus (var 1)) (var 4)))
    (given (lit (pos 1)) (lit (pos 0)) relation nothing)
    (ux ∷ uy ∷ uz ∷ xy ∷ xz ∷ yz ∷ []) px (nz, p, (n, q)) (sym e, tt) tt

-- the same where both are below, and y has the least ratio Wxy / -uy
pub nearest : (ux uy uz xy xz yz : ℤ) → ux *ℤ yz -ℤ uy *ℤ xz +ℤ uz *ℤ xy ≡ pos 0 → pos 0 <ℤ ux →
    (xy *ℤ neg_ℤ uz) ≤ℤ (xz *ℤ neg_ℤ uy) → pos 0 ≤ℤ neg_ℤ yz
nearest ux uy uz xy xz yz e px l =
    let n : pos 0 ≤ℤ (xz *ℤ neg_ℤ uy +ℤ neg_ℤ (xy *ℤ neg_ℤ uz)) = omega (arith, ints) in
    nonneg_from (var 0) (minus (var 5)) (end (lit (pos 1)) (var 4 ⊗ minus (var 1) ⊖ var 3 ⊗ minus (var 2)))
    (given (lit (pos 1)) (lit (pos 0)) relation nothing)
    (ux ∷ uy ∷ uz ∷ xy ∷ xz ∷ yz ∷ []) px (record { le = tt }, n) (sym e, tt) tt

-- the same where y has the least ratio Wxy / uy
pub lowest : (ux uy uz xy xz yz : ℤ) → ux *ℤ yz -ℤ uy *ℤ xz +ℤ uz *ℤ xy ≡ pos 0 → pos 0 <ℤ ux →
    (xy *ℤ uz) ≤ℤ (xz *ℤ uy) → pos 0 ≤ℤ yz
lowest ux uy uz xy xz yz e px l =
    let n : pos 0 ≤ℤ (xz *ℤ uy +ℤ neg_ℤ (xy *ℤ uz)) = omega (arith, ints) in
    nonneg_from (var 0) (var 5) (end (lit (pos 1)) (var 4 ⊗ var 1 ⊖ var 3 ⊗ var 2))
    (given (lit (pos 1)) relation (lit (pos 0)) nothing)
    (ux ∷ uy ∷ uz ∷ xy ∷ xz ∷ yz ∷ []) px (record { le = tt }, n) (e, tt) tt

-- where z lies in the plane, the side of its circle is the same for every mate
pub mate_sign : (ux uy uz xy xz yz : ℤ) → ux *ℤ yz -ℤ uy *ℤ xz +ℤ uz *ℤ xy ≡ pos 0 → pos 0 <ℤ ux → pos 0 ≤ℤ uy →
    uz ≡ pos 0 → pos 0 ≤ℤ xz → pos 0 ≤ℤ yz
mate_sign ux uy uz xy xz yz e px py z q =
    nonneg_from (var 0) (var 5) (end (var 1) (var 4)) (given (lit (pos 1)) relation (lit (pos 0))
    (given (minus (var 3)) (var 2) (lit (pos 0)) nothing))
    (ux ∷ uy ∷ uz ∷ xy ∷ xz ∷ yz ∷ []) px (py, q) (e, (z, tt)) tt
