use Rattle.std.proofs.Common.{◌∙◌}
use Rattle.mesh_files.specs.Text.{mesh_blocks}
use Rattle.text_sheets.proofs.Cited.{then}
use Rattle.mesh_files.proofs.report.put_mesh.Goals as goal

pub returns : goal.returns
unfolding mesh_blocks
returns g c =
    let points = c.deref-points.ensures.value in
    let f1 = rw c.deref.ensures.value at c.put_replies.ensures in
    let f2 = rw points at c.put_points.ensures in
    let indices = c.new-indices.ensures ∙ points in
    let f3 = rw indices at c.put_cells.ensures in
    then (then (then f1 f2) f3) (rw indices at c.put_hull.ensures)
