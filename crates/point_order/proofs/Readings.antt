-- What the code reads of coordinates, of steps and of minors: the numbers themselves.
use Rattle.std.proofs.Common.{◌≡◌, ◌∙◌, ◌<◌, ◌+◌, ◌*◌, ◌^◌, ℕ, ℤ, pos, ◌-ℤ◌, true, false, inl, inr, arith, lit<, w64}
use Rattle.std.proofs.Common.{to_z, of_z}
use Rattle.std.specs.Prelude.{unsigned_abs}
use Rattle.std.specs.Int.{cast_signed, cast_unsigned}
use Rattle.std.specs.Int.Signed.{lt_z}
use Rattle.std.specs.Int.RustNames.{FitsSigned}
use Rattle.std.proofs.lemmas.Int.{ints}
use Rattle.whole_ring.specs.Bounds.{IsWithin}
use Rattle.whole_ring.proofs.Cited.{read, read_as, same_difference, within_as, within_fits, within_read}
use Rattle.point_order.specs.Coordinates.{x_of, y_of, z_of, IsCoordinate, IsNoCoordinate}
use Rattle.point_order.specs.Orientation.{x_from, y_from, z_from, minor}
use Rattle.point_order.specs.Sizes.{greatest_difference, greatest_minor}
use Rattle.point_order.proofs.Keys.{x_of_below, y_of_below, z_of_below}
use Rattle.point_order.proofs.Sizes.{apart}
use Rattle.point_order.proofs.Steps.{same_minor}

-- a coordinate
pub coordinate_read : {v : ℤ} {n : ℕ} → v ≡ pos n → n < 16384 → to_z w64 (of_z w64 v) ≡ pos n
coordinate_read e h = read_as e (within_fits w64 {m = greatest_difference} (record { size = omega arith }) (lit< tt))

-- the difference of two coordinates
pub x_read : (a b : ℕ) {u v : ℤ} → u ≡ pos (x_of b) → v ≡ pos (x_of a)
    → to_z w64 (of_z w64 u) -ℤ to_z w64 (of_z w64 v) ≡ x_from a b
unfolding x_from
x_read a b e f = same_difference (coordinate_read e (x_of_below b)) (coordinate_read f (x_of_below a))

-- the same along y
pub y_read : (a b : ℕ) {u v : ℤ} → u ≡ pos (y_of b) → v ≡ pos (y_of a)
    → to_z w64 (of_z w64 u) -ℤ to_z w64 (of_z w64 v) ≡ y_from a b
unfolding y_from
y_read a b e f = same_difference (coordinate_read e (y_of_below b)) (coordinate_read f (y_of_below a))

-- and along z
pub z_read : (a b : ℕ) {u v : ℤ} → u ≡ pos (z_of b) → v ≡ pos (z_of a)
    → to_z w64 (of_z w64 u) -ℤ to_z w64 (of_z w64 v) ≡ z_from a b
unfolding z_from
z_read a b e f = same_difference (coordinate_read e (z_of_below b)) (coordinate_read f (z_of_below a))

-- which is small, whichever of the two comes first
pub apart_read : {u v : ℤ} (m n : ℕ) → u ≡ pos n → n < 16384 → v ≡ pos m → m < 16384
    → IsWithin greatest_difference (to_z w64 (of_z w64 (to_z w64 (of_z w64 u) -ℤ to_z w64 (of_z w64 v))))
apart_read m n e h f k =
    within_read w64 (within_as (same_difference (coordinate_read e h) (coordinate_read f k)) (apart m n k h)) (lit< tt)

-- a coordinate of a step
pub step_read : {x : ℤ} → IsWithin greatest_difference x → to_z w64 (of_z w64 x) ≡ x
step_read h = read (within_fits w64 h (lit< tt))

-- a minor of what is read of two steps is their minor
pub minor_read : {p q r s m : ℤ} → IsWithin greatest_difference p → IsWithin greatest_difference q
    → IsWithin greatest_difference r → IsWithin greatest_difference s
    → m ≡ minor (to_z w64 (of_z w64 p)) (to_z w64 (of_z w64 q)) (to_z w64 (of_z w64 r)) (to_z w64 (of_z w64 s))
    → IsWithin greatest_minor m → to_z w64 (of_z w64 m) ≡ minor p q r s
minor_read h i j k e bound =
    read (within_fits w64 bound (lit< tt)) ∙ e ∙ same_minor (step_read h) (step_read i) (step_read j) (step_read k)

-- A number that is given as a coordinate, by the two tests of it: as a number without a sign it is the same, and is
-- one.
pub record IsGiven (v : ℤ) (n : ℕ) : Type 0 where
  pub same : pos n ≡ v
  pub below : n < 16384

-- where both tests pass it is a coordinate as it was given
pub given : {v : ℤ} → FitsSigned w64 v → lt_z (cast_signed w64 (cast_unsigned w64 v)) (pos 0) ≡ false
    → lt_z (pos 16383) (cast_signed w64 (cast_unsigned w64 v)) ≡ false
    → IsGiven v (unsigned_abs (cast_signed w64 (cast_unsigned w64 v)))
given h e f = record { same = omega (arith, ints); below = omega (arith, ints) }

-- and so it is a coordinate
pub given_coordinate : {v : ℤ} {n : ℕ} → IsGiven v n → IsCoordinate v
given_coordinate h = (omega (arith, ints, h.same), omega (arith, ints, h.same, h.below))

-- or it is none
pub too_small : {v : ℤ} → FitsSigned w64 v → lt_z (cast_signed w64 (cast_unsigned w64 v)) (pos 0) ≡ true →
    IsNoCoordinate v
too_small h e = inl (omega (arith, ints))

-- where it is above 16383 it is none
pub too_great : {v : ℤ} → FitsSigned w64 v → lt_z (pos 16383) (cast_signed w64 (cast_unsigned w64 v)) ≡ true →
    IsNoCoordinate v
too_great h e = inr (omega (arith, ints))

-- three coordinates make a key
pub packed_below : (a b d : ℕ) → a < 16384 → b < 16384 → d < 16384 → a * 268435456 + b * 16384 + d < 2 ^ 42
packed_below a b d h i j = omega arith
