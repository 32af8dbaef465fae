-- The parts of a list that have so many elements.
use Rattle.std.specs.Prelude.{ℕ, zero, suc, List, [], ◌∷◌, ◌++◌, map}

-- in lexicographic order by place: of an ascending list they are its subsets, each ascending
abbrev pub subsets : ℕ → List ℕ → List (List ℕ)
subsets zero xs = [] ∷ []
subsets (suc k) [] = []
subsets (suc k) (x ∷ xs) = map (λ q. x ∷ q) (subsets k xs) ++ subsets (suc k) xs
