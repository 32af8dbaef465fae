use Rattle.std.proofs.Common.{◌∙◌}
use Rattle.text_sheets.proofs.Cited.{then}
use Rattle.alpha_steps.specs.Text.{steps_text}
use Rattle.alpha_steps.proofs.texts.put_all.Goals as goal

pub returns : goal.returns
unfolding steps_text
returns g c =
    let points = c.new-indices.ensures ∙ c.points.ensures in
    let edges = rw points at c.put_pairs.ensures in
    let triangles = rw points at c.put_triples.ensures in
    let cells = rw points at c.put_cells.ensures in
    then (then (then (then c.put.ensures edges) triangles) cells) c.put-2.ensures
