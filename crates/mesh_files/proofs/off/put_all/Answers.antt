use Rattle.mesh_files.specs.Off.{off_text}
use Rattle.text_sheets.proofs.Cited.{then}
use Rattle.mesh_files.proofs.off.put_all.Goals as goal

pub returns : goal.returns
unfolding off_text
returns g c = then (then (then c.put.ensures c.put_three.ensures) c.put_vertices.ensures)
    (rw c.new.ensures at c.put_faces.ensures)
