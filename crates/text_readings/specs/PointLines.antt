-- Numbers and points in text: their forms, and what they say.
use Rattle.std.specs.Prelude.{◌≡◌, ℕ, ◌+◌, ◌*◌, List, ◌∷◌, ◌++◌, drop, decimal, IsTrue, if◌then◌else◌}
use Rattle.std.specs.Str.Parse.{IsNumeral, digits_value, starts_with_minus}
use Rattle.point_order.specs.Coordinates.{x_of, y_of, z_of, IsKey}

-- what follows the minus, or all where there is none
abbrev pub after_minus : List ℕ → List ℕ
after_minus bs = if starts_with_minus bs then drop 1 bs else bs

abbrev pub IsNumber : List ℕ → Type 0
IsNumber bs = IsNumeral 10 (after_minus bs)

-- a number whose value is n, which is 0 or above; behind a minus stands no n but 0
pub record IsNumberOf (bs : List ℕ) (n : ℕ) : Type 0 where
  pub number : IsNumber bs
  pub value : digits_value 10 (after_minus bs) ≡ n
  pub minus : IsTrue (starts_with_minus bs) → n ≡ 0

-- three fields with one space (32) between them
abbrev pub three_spaced : List ℕ → List ℕ → List ℕ → List ℕ
three_spaced x y z = x ++ 32 ∷ y ++ 32 ∷ z

-- a line of the form of a point line: three numbers with one space between them
pub record HasPointForm (line : List ℕ) : Type 0 where
  pub x : List ℕ
  pub y : List ℕ
  pub z : List ℕ
  pub fields : line ≡ three_spaced x y z
  pub x_number : IsNumber x
  pub y_number : IsNumber y
  pub z_number : IsNumber z

-- the point line of a point: its three coordinates, which are 0 to 16383
pub record IsPointLine (line : List ℕ) (point : ℕ) : Type 0 where
  pub x : List ℕ
  pub y : List ℕ
  pub z : List ℕ
  pub fields : line ≡ three_spaced x y z
  pub x_value : IsNumberOf x (x_of point)
  pub y_value : IsNumberOf y (y_of point)
  pub z_value : IsNumberOf z (z_of point)
  pub key : IsKey point

-- the point line that is written of a point
abbrev pub line_of_point : ℕ → List ℕ
line_of_point p = three_spaced (decimal (x_of p)) (decimal (y_of p)) (decimal (z_of p))

-- how many coordinates there are, 0 to 16383
abbrev pub coordinate_count : ℕ
coordinate_count = 16384

abbrev pub greatest_coordinate : ℕ
greatest_coordinate = 16383

-- the key of a point, of its coordinates: x * 2^28 + y * 2^14 + z
abbrev pub key_of : ℕ → ℕ → ℕ → ℕ
key_of x y z = x * 268435456 + y * coordinate_count + z
