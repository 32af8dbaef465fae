-- The text of the answers to queries, which names points by their indices.
use Rattle.std.specs.Prelude.{ℕ, List, [], ◌∷◌, ◌++◌, map, codes}
use Rattle.text_sheets.specs.Indices.{index_of}
use Rattle.text_sheets.specs.Lines.{block, numbers_line}
use Rattle.nearest_points.specs.declared.answers.Near.{Near}

-- the index of the nearest point in an ascending list, and the square of its distance
abbrev pub near_line : List ℕ → Near → List ℕ
near_line points near = numbers_line (index_of points near.point ∷ near.square ∷ [])

-- the text, version 1
unfoldable pub near_text : List ℕ → List Near → List ℕ
near_text points nears =
    codes "mesh3-near 1\n" ++ block (codes "queries") (map (near_line points) nears) ++ codes "end\n"
