-- The heights to which points are lifted, and the lifted determinant, which
-- tells the inside of a sphere from its outside.
use Rattle.std.specs.Prelude.{◌≡◌, refl, ℕ, ◌+◌, ◌*◌, ◌^◌, ℤ, pos, ◌+ℤ◌, ◌-ℤ◌, ◌*ℤ◌}
use Rattle.point_order.specs.Coordinates.{x_of, y_of, z_of}
use Rattle.point_order.specs.Orientation.{orientation}

-- |p|^2, the height of p on the paraboloid
unfoldable pub square_of : ℕ → ℕ
square_of p = x_of p * x_of p + y_of p * y_of p + z_of p * z_of p

-- Two great numbers, opaque on purpose: no proof and no program computes a power of them.
pub base : ℕ
base = 2 ^ 64

pub top : ℕ
top = 2 ^ 42

pub base_is : base ≡ 2 ^ 64
unfolding base
base_is = refl

pub top_is : top ≡ 2 ^ 42
unfolding top
top_is = refl

-- The perturbed height: |p|^2 times a great number, raised by a smaller one that grows with the key of p.
unfoldable pub height : ℕ → ℕ
height p = square_of p * base ^ top + base ^ p

-- The lifted determinant of five points, for heights h. Where a, b, c, d have a positive orientation,
-- it is positive where e lies above the plane through the four lifted points.
unfoldable pub lifted : (ℕ → ℕ) → ℕ → ℕ → ℕ → ℕ → ℕ → ℤ
lifted h a b c d e =
    orientation a b c d *ℤ pos (h e)
    -ℤ orientation a b c e *ℤ pos (h d)
    +ℤ orientation a b d e *ℤ pos (h c)
    -ℤ orientation a c d e *ℤ pos (h b)
    +ℤ orientation b c d e *ℤ pos (h a)

-- the in-sphere polynomial: the lifted determinant on the paraboloid
unfoldable pub sphere_polynomial : ℕ → ℕ → ℕ → ℕ → ℕ → ℤ
sphere_polynomial a b c d e = lifted square_of a b c d e

-- the lifted determinant at the perturbed heights
unfoldable pub out : ℕ → ℕ → ℕ → ℕ → ℕ → ℤ
out a b c d e = lifted height a b c d e
