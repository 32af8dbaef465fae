use Rattle.mesh_files.specs.Text.{report_text}
use Rattle.text_sheets.proofs.Cited.{then}
use Rattle.mesh_files.proofs.report.put_all.Goals as goal

pub returns : goal.returns
unfolding report_text
returns g c =
    let f3 = rw c.deref.ensures.value at c.put_shapes.ensures in
    then (then (then (then c.put.ensures c.put_mesh.ensures) f3) c.put_order.ensures) c.put-2.ensures
