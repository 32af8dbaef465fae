-- How orientations change where points are exchanged or repeated, and the in-sphere polynomial by squares of distances.
use Rattle.std.specs.Prelude.{ℕ, pos, neg_ℤ, ◌≡◌, ◌+ℤ◌, ◌-ℤ◌, ◌*ℤ◌, [], ◌∷◌}
use Rattle.whole_ring.specs.Poly.{lit, minus, ◌⊕◌, ◌⊖◌, ◌⊗◌}
use Rattle.whole_ring.proofs.Cited.{ring}
use Rattle.point_order.specs.Orientation.{x_from, y_from, z_from, minor, triple, orientation, square_of_step, distance}
use Rattle.point_order.specs.Heights.{square_of, lifted, sphere_polynomial}
use Rattle.point_order.proofs.Written.{coordinates, orientation_w, distance_w, sphere_w}

-- an exchange of the first two points turns the sign of an orientation
pub swap_first : (a b c d : ℕ) → orientation b a c d ≡ neg_ℤ (orientation a b c d)
unfolding orientation triple minor x_from y_from z_from
swap_first a b c d =
    ring (orientation_w 1 0 2 3) (minus (orientation_w 0 1 2 3)) (coordinates (a ∷ b ∷ c ∷ d ∷ [])) tt

-- an exchange of the middle two turns it
pub swap_middle : (a b c d : ℕ) → orientation a c b d ≡ neg_ℤ (orientation a b c d)
unfolding orientation triple minor x_from y_from z_from
swap_middle a b c d =
    ring (orientation_w 0 2 1 3) (minus (orientation_w 0 1 2 3)) (coordinates (a ∷ b ∷ c ∷ d ∷ [])) tt

-- an exchange of the last two turns it
pub swap_last : (a b c d : ℕ) → orientation a b d c ≡ neg_ℤ (orientation a b c d)
unfolding orientation triple minor x_from y_from z_from
swap_last a b c d =
    ring (orientation_w 0 1 3 2) (minus (orientation_w 0 1 2 3)) (coordinates (a ∷ b ∷ c ∷ d ∷ [])) tt

-- the orientation is 0 where the last point is the first
pub last_first : (a b c : ℕ) → orientation a b c a ≡ pos 0
unfolding orientation triple minor x_from y_from z_from
last_first a b c = ring (orientation_w 0 1 2 0) (lit (pos 0)) (coordinates (a ∷ b ∷ c ∷ [])) tt

-- or the second
pub last_second : (a b c : ℕ) → orientation a b c b ≡ pos 0
unfolding orientation triple minor x_from y_from z_from
last_second a b c = ring (orientation_w 0 1 2 1) (lit (pos 0)) (coordinates (a ∷ b ∷ c ∷ [])) tt

-- or the third
pub last_third : (a b c : ℕ) → orientation a b c c ≡ pos 0
unfolding orientation triple minor x_from y_from z_from
last_third a b c = ring (orientation_w 0 1 2 2) (lit (pos 0)) (coordinates (a ∷ b ∷ c ∷ [])) tt

-- the in-sphere polynomial is the same with distances from the first point in place of squares
pub sphere_from_first : (a b c d e : ℕ) → sphere_polynomial a b c d e ≡ orientation a b c d *ℤ distance a e -ℤ
    orientation a b c e *ℤ distance a d +ℤ orientation a b d e *ℤ distance a c -ℤ orientation a c d e *ℤ distance a b
unfolding sphere_polynomial lifted square_of distance square_of_step orientation triple minor x_from y_from z_from
sphere_from_first a b c d e =
    ring sphere_w (orientation_w 0 1 2 3 ⊗ distance_w 0 4 ⊖ orientation_w 0 1 2 4 ⊗ distance_w 0 3
    ⊕ orientation_w 0 1 3 4 ⊗ distance_w 0 2 ⊖ orientation_w 0 2 3 4 ⊗ distance_w 0 1)
    (coordinates (a ∷ b ∷ c ∷ d ∷ e ∷ [])) tt
