-- Lines of text: numbers in decimal, with one space between two of them, and a line feed at the end.
use Rattle.std.specs.Prelude.{ℕ, List, [], ◌∷◌, ◌++◌, codes, decimal, length, Option, None, Some}
use Rattle.std.specs.List.{concat}

-- the numbers in decimal, parted by one space each
abbrev pub spaced : List ℕ → List ℕ
spaced [] = []
spaced (n ∷ []) = decimal n
spaced (n ∷ m ∷ ns) = decimal n ++ codes " " ++ spaced (m ∷ ns)

-- a line of these numbers
abbrev pub numbers_line : List ℕ → List ℕ
numbers_line ns = spaced ns ++ codes "\n"

-- a title and how many lines follow, and then the lines
abbrev pub block : List ℕ → List (List ℕ) → List ℕ
block title lines = title ++ codes " " ++ decimal (length lines) ++ codes "\n" ++ concat lines

-- the line of what a slot holds, and nothing where it is empty
abbrev pub held_line : {X : Type 0} → (X → List ℕ) → Option X → List ℕ
held_line line None = []
held_line line (Some x) = line x
