-- How large the in-sphere polynomial and its terms are, where the coordinates of points are 0 to 16383.
use Rattle.std.specs.Prelude.{ℕ}

-- a term, the product of an orientation and the square of a distance: 18 16383^5
abbrev pub greatest_term : ℕ
greatest_term = 21244164781050045038574

-- the polynomial, a sum of four such terms: 72 16383^5
abbrev pub greatest_sphere : ℕ
greatest_sphere = 84976659124200180154296
