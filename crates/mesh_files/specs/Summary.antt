-- The summary of a report: how many lines there were, replies of each word, points, cells, and faces of each shape.
use Rattle.std.specs.Prelude.{ℕ, List, [], ◌∷◌, ◌++◌, map, length, codes, decimal, count_by}
use Rattle.std.specs.List.{concat}
use Rattle.std.specs.Str.{bytes_eq}
use Rattle.edit_history.specs.declared.history.Reply.{Reply}
use Rattle.edit_history.specs.declared.history.Reply.TheVariants.{Inserted, Duplicate, Removed, Missing, Flat}
use Rattle.alpha_complex.specs.Shapes.{ShapeParts}
use Rattle.text_sheets.specs.Lines.{numbers_line}
use Rattle.mesh_files.specs.Text.{ReportParts, full_corners, hull_corners}
use Rattle.mesh_reader.specs.Grammar.{reply_word}

-- a word and a number
abbrev pub count_line : List ℕ → ℕ → List ℕ
count_line word n = word ++ codes " " ++ decimal n ++ codes "\n"

-- how many of the replies have this word
abbrev pub replies_with : List Reply → List ℕ → ℕ
replies_with replies word = count_by (λ reply. bytes_eq (reply_word reply) word) replies

-- the word of a reply, and how many of the replies have it
abbrev pub reply_count_line : List Reply → Reply → List ℕ
reply_count_line replies reply = count_line (reply_word reply) (replies_with replies (reply_word reply))

-- the replies that a drawn file can have: none of its edits moves a point
abbrev pub all_replies : List Reply
all_replies = Inserted ∷ Duplicate ∷ Removed ∷ Missing ∷ Flat ∷ []

-- how many points, Full cells and Open cells there are
unfoldable pub mesh_counts : ReportParts → List ℕ
mesh_counts r =
    count_line (codes "points") (length r.points)
    ++ count_line (codes "cells") (length (full_corners r.cells))
    ++ count_line (codes "hull") (length (hull_corners r.cells))

-- a radius, and how many edges, triangles and cells its shape has
abbrev pub shape_line : ℕ × ShapeParts → List ℕ
shape_line s = codes "shape " ++ numbers_line (s.0 ∷ length s.1.pairs ∷ length s.1.triples ∷ length s.1.cells ∷ [])

-- the text of a summary
unfoldable pub summary_text : ReportParts → List ℕ
summary_text r =
    count_line (codes "lines") (length r.replies)
    ++ concat (map (reply_count_line r.replies) all_replies)
    ++ mesh_counts r
    ++ concat (map shape_line r.shapes)
