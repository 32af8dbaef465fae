-- Lines of a text, from one number to another.
use Rattle.std.specs.Prelude.{ℕ, List, drop, take}
use Rattle.std.specs.List.{concat}

-- the lines from one number to another, one after another
abbrev pub lines_from : ℕ → ℕ → List (List ℕ) → List ℕ
lines_from from to lines = concat (drop from (take to lines))
