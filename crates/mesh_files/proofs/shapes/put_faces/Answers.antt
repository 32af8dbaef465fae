use Rattle.std.proofs.Common.{◌∙◌}
use Rattle.mesh_files.specs.Text.{face_blocks}
use Rattle.text_sheets.proofs.Cited.{then}
use Rattle.mesh_files.proofs.shapes.put_faces.Goals as goal

pub returns : goal.returns
unfolding face_blocks
returns g c =
    let points = c.new-indices.ensures ∙ c.points.ensures in
    then (then (then (rw points at c.put_points.ensures) (rw points at c.put_pairs.ensures))
    (rw points at c.put_triples.ensures)) (rw points at c.put_cells.ensures)
