-- Gabriel faces: no point of the set lies strictly inside the smallest circumscribing sphere.
use Rattle.std.specs.Prelude.{ℕ, Bool, true, not, List, [], ◌∷◌}
use Rattle.std.specs.List.{list_all}
use Rattle.small_spheres.specs.Inside.{is_inside_edge, is_inside_triangle}

-- no point of s lies strictly inside the smallest circumscribing sphere of the edge a, b
abbrev pub is_empty_edge : List ℕ → ℕ → ℕ → Bool
is_empty_edge s a b = list_all (λ e. not (is_inside_edge a b e)) s

-- and of the triangle a, b, c
abbrev pub is_empty_triangle : List ℕ → ℕ → ℕ → ℕ → Bool
is_empty_triangle s a b c = list_all (λ e. not (is_inside_triangle a b c e)) s

-- A face, by its points, is Gabriel in s where no point of s lies strictly inside its smallest circumscribing sphere.
-- A point and a Full cell always are: nothing lies inside.
abbrev pub is_gabriel : List ℕ → List ℕ → Bool
is_gabriel s (a ∷ b ∷ []) = is_empty_edge s a b
is_gabriel s (a ∷ b ∷ c ∷ []) = is_empty_triangle s a b c
is_gabriel s _ = true
