-- How large the whole numbers are that are made of points, whose coordinates are 0 to 16383.
-- Each is the greatest size that the sum and the products in it allow, where all terms have their own greatest size.
use Rattle.std.specs.Prelude.{ℕ}

-- a difference of two coordinates
abbrev pub greatest_difference : ℕ
greatest_difference = 16383

-- p s - q r, of four differences: 2 16383^2
abbrev pub greatest_minor : ℕ
greatest_minor = 536805378

-- the square of the distance of two points, a sum of three squares of differences: 3 16383^2
abbrev pub greatest_square : ℕ
greatest_square = 805208067

-- the determinant of three steps, a sum of three products of a difference and a minor: 6 16383^3
abbrev pub greatest_orientation : ℕ
greatest_orientation = 26383447523322
