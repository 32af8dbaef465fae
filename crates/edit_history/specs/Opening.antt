-- The opening four of a list of points: the points that a mesh begins with.
use Rattle.std.specs.Prelude.{ℕ, ◌+◌, Bool, not, ◌==◌, List, [], ◌∷◌, Option, None, drop}
use Rattle.std.specs.List.{position_from}
use Rattle.std.specs.Option.{option_and_then, option_map}
use Rattle.std.specs.Prelude.{slice_index}
use Rattle.point_order.specs.Orientation.{is_flat, is_collinear}

-- four places in a list
pub record FourPlaces : Type 0 where
  pub first : ℕ
  pub second : ℕ
  pub third : ℕ
  pub fourth : ℕ

-- the place of the first point after place i for which the test holds
abbrev pub next_place : (ℕ → Bool) → ℕ → List ℕ → Option ℕ
next_place test i points = position_from test (i + 1) (drop (i + 1) points)

-- the first point, the first after it that differs from it, the first after that off the line of the two,
-- and the first after that off the plane of the three
abbrev pub opening_four : List ℕ → Option FourPlaces
opening_four [] = None
opening_four (a ∷ rest) =
    let points = a ∷ rest in
    option_and_then
    (λ j.
    let b = slice_index points j in
    option_and_then
    (λ k.
    let c = slice_index points k in
    option_map
    (λ l. record { first = 0; second = j; third = k; fourth = l })
    (next_place (λ d. not (is_flat a b c d)) k points))
    (next_place (λ c. not (is_collinear a b c)) j points))
    (next_place (λ b. not (b == a)) 0 points)
