-- The text of the thresholds of a complex.
use Rattle.std.specs.Prelude.{ℕ, List, ◌++◌, map, codes, decimal}
use Rattle.std.specs.List.{concat}
use Rattle.text_sheets.specs.Indices.{index_of}
use Rattle.text_sheets.specs.Lines.{block}
use Rattle.list_laws.specs.Lists.{held}
use Rattle.alpha_steps.specs.declared.threshold.Threshold.{Threshold}
use Rattle.alpha_steps.specs.declared.threshold.Threshold.TheVariants.{At, Never}
use Rattle.alpha_steps.specs.Thresholds.{StepSlots}

abbrev pub threshold_word : Threshold → List ℕ
threshold_word (At t) = decimal t
threshold_word Never = codes "none"

-- the points of a face as indices, each with a space behind it, and then its threshold
abbrev pub step_line : List ℕ → List ℕ × Threshold → List ℕ
step_line points f =
    concat (map (λ p. decimal (index_of points p) ++ codes " ") f.0) ++ threshold_word f.1 ++ codes "\n"

-- the text, version 1
unfoldable pub steps_text : StepSlots → List ℕ
steps_text list =
    codes "mesh3-steps 1\n"
    ++ block (codes "edges") (map (step_line list.points) list.pairs)
    ++ block (codes "triangles") (map (step_line list.points) list.triples)
    ++ block (codes "cells") (map (step_line list.points) (held list.cells))
    ++ codes "end\n"
