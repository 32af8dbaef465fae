-- The complex of a set of points as a test of four vertices, which may stand in any order.
use Rattle.std.specs.Prelude.{ℕ, Bool, false, ◌&&◌, List, [], ◌∷◌}
use Rattle.std.specs.List.{list_all}
use Rattle.point_order.specs.Sets.{is_among}
use Rattle.point_order.specs.Complex.{is_full, is_open}
use Rattle.del_laws.specs.Cells.{Vertex, point, far}

-- all points of q are in s
abbrev pub are_among : List ℕ → List ℕ → Bool
are_among q s = list_all (λ p. is_among p s) q

-- the four points are a Full cell of s
abbrev pub is_full_cell : List ℕ → ℕ → ℕ → ℕ → ℕ → Bool
is_full_cell s a b c d = are_among (a ∷ b ∷ c ∷ d ∷ []) s && is_full s (a ∷ b ∷ c ∷ d ∷ [])

-- the three points are an Open cell of s
abbrev pub is_open_cell : List ℕ → ℕ → ℕ → ℕ → Bool
is_open_cell s a b c = are_among (a ∷ b ∷ c ∷ []) s && is_open s (a ∷ b ∷ c ∷ [])

-- The four vertices are a cell of s: four points of a Full cell, or three of an Open cell and the infinite vertex.
abbrev pub is_cell : List ℕ → Vertex → Vertex → Vertex → Vertex → Bool
is_cell s (point a) (point b) (point c) (point d) = is_full_cell s a b c d
is_cell s (point a) (point b) (point c) far = is_open_cell s a b c
is_cell s (point a) (point b) far (point c) = is_open_cell s a b c
is_cell s (point a) far (point b) (point c) = is_open_cell s a b c
is_cell s far (point a) (point b) (point c) = is_open_cell s a b c
is_cell s _ _ _ _ = false
