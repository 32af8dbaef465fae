-- How large steps, minors, orientations and squares of distances are.
use Rattle.std.proofs.Common.{ℕ, ◌<◌, arith, ℤ, pos, ◌-ℤ◌}
use Rattle.std.proofs.lemmas.Int.{ints}
use Rattle.whole_ring.specs.Bounds.{IsWithin}
use Rattle.whole_ring.proofs.Cited.{within_add, within_mul, within_sub}
use Rattle.point_order.specs.Coordinates.{x_of, y_of, z_of}
use Rattle.point_order.specs.Orientation.{x_from, y_from, z_from, minor, triple, orientation}
use Rattle.point_order.proofs.Keys.{x_of_below, y_of_below, z_of_below}

-- two coordinates are less than 16384 apart
pub apart : (m n : ℕ) → m < 16384 → n < 16384 → IsWithin 16383 (pos n -ℤ pos m)
apart m n h k = record { size = omega (arith, ints) }

-- so a coordinate of a step is at most 16383
pub x_from_within : (a b : ℕ) → IsWithin 16383 (x_from a b)
unfolding x_from
x_from_within a b = apart (x_of a) (x_of b) (x_of_below a) (x_of_below b)

-- the second coordinate
pub y_from_within : (a b : ℕ) → IsWithin 16383 (y_from a b)
unfolding y_from
y_from_within a b = apart (y_of a) (y_of b) (y_of_below a) (y_of_below b)

-- the third
pub z_from_within : (a b : ℕ) → IsWithin 16383 (z_from a b)
unfolding z_from
z_from_within a b = apart (z_of a) (z_of b) (z_of_below a) (z_of_below b)

-- a minor of small numbers is at most 2 times 16383^2
pub minor_within : {p q r s : ℤ} → IsWithin 16383 p → IsWithin 16383 q → IsWithin 16383 r → IsWithin 16383 s →
    IsWithin 536805378 (minor p q r s)
unfolding minor
minor_within h i j k = within_sub (within_mul h k) (within_mul i j)

-- a determinant of them is at most 6 times 16383^3
pub triple_within : {a b c d e f g h i : ℤ} → IsWithin 16383 a → IsWithin 16383 b → IsWithin 16383 c →
    IsWithin 16383 d → IsWithin 16383 e → IsWithin 16383 f → IsWithin 16383 g → IsWithin 16383 h → IsWithin 16383 i →
    IsWithin 26383447523322 (triple a b c d e f g h i)
unfolding triple
triple_within a b c d e f g h i =
    within_add (within_add (within_mul a (minor_within e f h i)) (within_mul b (minor_within f d i g)))
    (within_mul c (minor_within d e g h))

-- and so is an orientation
pub orientation_within : (a b c d : ℕ) → IsWithin 26383447523322 (orientation a b c d)
unfolding orientation
orientation_within a b c d =
    triple_within (x_from_within a b) (y_from_within a b) (z_from_within a b) (x_from_within a c) (y_from_within a c)
    (z_from_within a c) (x_from_within a d) (y_from_within a d) (z_from_within a d)
