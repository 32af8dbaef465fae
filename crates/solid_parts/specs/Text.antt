-- The text of solid parts.
use Rattle.std.specs.Prelude.{ℕ, List, ◌++◌, map, length, codes, decimal}
use Rattle.text_sheets.specs.Lines.{block}
use Rattle.solid_parts.specs.declared.part.PartSize.{PartSize}
use Rattle.solid_parts.specs.Boundary.{boundary_of}

-- how many cells a part has, and how many triangles its boundary
abbrev pub size_of : List (List ℕ) → PartSize
size_of part = record { cells = length part; triangles = length (boundary_of part) }

abbrev pub size_line : PartSize → List ℕ
size_line size = codes "part " ++ decimal size.cells ++ codes " " ++ decimal size.triangles ++ codes "\n"

-- the text of the sizes of the parts at an alpha, version 1
unfoldable pub sizes_text : ℕ → List PartSize → List ℕ
sizes_text alpha sizes =
    codes "mesh3-parts 1\n" ++ codes "alpha " ++ decimal alpha ++ codes "\n" ++ block (codes "parts")
    (map size_line sizes)
    ++ codes "end\n"

-- the text of the parts at an alpha
abbrev pub parts_text : ℕ → List (List (List ℕ)) → List ℕ
parts_text alpha parts = sizes_text alpha (map size_of parts)
