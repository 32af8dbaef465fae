-- How large the numbers are of which squared radii and powers are made, where the coordinates of points are 0 to 16383.
use Rattle.std.specs.Prelude.{ℕ}

-- a scalar product with a normal, of another normal or of three squares of distances: 18 16383^4
abbrev pub greatest_scalar : ℕ
greatest_scalar = 1296720062323752978

-- the square of such a scalar product: 324 16383^8
abbrev pub greatest_square_of_scalar : ℕ
greatest_square_of_scalar = 1681482920032917807514505262763868484

-- the square of a distance times such a scalar product, a term of a power: 54 16383^6
abbrev pub greatest_power_term : ℕ
greatest_power_term = 1044129454823828663600873526

-- the sum of three such squares, of the coordinates of a cell's N: 972 16383^8
abbrev pub greatest_square_of_centre : ℕ
greatest_square_of_centre = 5044448760098753422543515788291605452

-- the product of two squares of distances: 9 16383^4
abbrev pub greatest_product_of_squares : ℕ
greatest_product_of_squares = 648360031161876489

-- and of three, of the sides of a triangle: 27 16383^6
abbrev pub greatest_product_of_sides : ℕ
greatest_product_of_sides = 522064727411914331800436763

-- the square of an orientation: 36 16383^6
abbrev pub greatest_square_of_orientation : ℕ
greatest_square_of_orientation = 696086303215885775733915684

-- a gap, 2 O times a way of at most 16384 less a scalar product: 2^15 6 16383^3 + 18 16383^4
abbrev pub greatest_gap : ℕ
greatest_gap = 2161252870767968274
