use Rattle.mesh_files.specs.Text.{shape_text}
use Rattle.text_sheets.proofs.Cited.{then}
use Rattle.mesh_files.proofs.shapes.put_shape.Goals as goal

pub returns : goal.returns
unfolding shape_text
returns g c =
    then (then c.put.ensures c.put_number_and.ensures) c.put_faces.ensures
