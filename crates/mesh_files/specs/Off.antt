-- The OFF text of points and triangles.
use Rattle.std.specs.Prelude.{ℕ, List, [], ◌∷◌, ◌++◌, map, length, codes}
use Rattle.std.specs.List.{concat}
use Rattle.text_sheets.specs.Indices.{indices_line}
use Rattle.text_sheets.specs.Lines.{numbers_line}
use Rattle.mesh_files.specs.Text.{point_line}

-- a triangle by the indices of its points, in their turn
abbrev pub off_line : List ℕ → List ℕ → List ℕ
off_line points face = codes "3 " ++ indices_line points face

-- how many points and faces there are, and 0; then all points, and then the faces
unfoldable pub off_text : List ℕ → List (List ℕ) → List ℕ
off_text points faces =
    codes "OFF\n" ++ numbers_line (length points ∷ length faces ∷ 0 ∷ []) ++ concat (map point_line points)
    ++ concat (map (off_line points) faces)
