-- What the trial of quadruples and triples has found so far: the cells among those that begin in a certain way.
use Rattle.std.specs.Prelude.{ℕ, Bool, List, ◌++◌, map}
use Rattle.std.specs.List.{filter}
use Rattle.point_order.specs.Subsets.{subsets}
use Rattle.point_order.specs.Complex.{is_full, is_open}
use Rattle.point_order.specs.declared.cell.Cell.{Cell}
use Rattle.point_order.specs.declared.cell.Cell.TheVariants.{Full, Open}

-- what is made of those that pass, of the lists that begin with a front and go on with k elements of the rest
abbrev pub found_from : (List ℕ → Cell) → (List ℕ → Bool) → List ℕ → ℕ → List ℕ → List Cell
found_from make test front k rest = map make (filter test (map (λ q. front ++ q) (subsets k rest)))

-- the Full cells of s among them
abbrev pub full_from : List ℕ → List ℕ → ℕ → List ℕ → List Cell
full_from s front k rest = found_from Full (is_full s) front k rest

-- the Open cells of s among them
abbrev pub open_from : List ℕ → List ℕ → ℕ → List ℕ → List Cell
open_from s front k rest = found_from Open (is_open s) front k rest
