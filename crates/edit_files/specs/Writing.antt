-- The text that is written of a file: numbers with no leading zeros, and each line with its line feed.
use Rattle.std.specs.Prelude.{ℕ, List, [], ◌∷◌, ◌++◌, map, codes, decimal, if◌then◌else◌}
use Rattle.edit_history.specs.declared.history.Edit.{Edit}
use Rattle.edit_history.specs.declared.history.Edit.TheVariants.{Add, Take, Move}
use Rattle.edit_files.specs.Content.{Content, row}
use Rattle.text_readings.specs.Readings.{text_of}
use Rattle.text_readings.specs.PointLines.{line_of_point}
use Rattle.edit_files.specs.declared.version.Version.{Version}

-- the edit line that is written of an edit
abbrev pub edit_text : Edit → List ℕ
edit_text (Add p) = codes "+ " ++ line_of_point p
edit_text (Take p) = codes "- " ++ line_of_point p
edit_text (Move a b) = codes "= " ++ line_of_point a ++ codes " " ++ line_of_point b

-- the section of queries, where the version has one
abbrev pub query_section : Version → List (List ℕ) → List (List ℕ)
query_section version queries = if (row version).queries then codes "queries" ∷ queries else []

-- the lines that are written of a file
abbrev pub file_lines : Content → List (List ℕ)
file_lines f =
    (row f.version).title ∷ codes "points" ∷ map line_of_point f.points ++ codes "edits" ∷ map edit_text f.edits
    ++ codes "radii" ∷ map decimal f.radii ++ query_section f.version (map line_of_point f.queries) ++ codes "end" ∷ []

abbrev pub file_text : Content → List ℕ
file_text f = text_of (file_lines f)
