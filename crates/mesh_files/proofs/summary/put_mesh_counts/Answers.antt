use Rattle.std.proofs.Common.{◌∙◌}
use Rattle.mesh_files.specs.Summary.{mesh_counts}
use Rattle.text_sheets.proofs.Cited.{then}
use Rattle.mesh_files.proofs.summary.put_mesh_counts.Goals as goal

pub returns : goal.returns
unfolding mesh_counts
returns g c =
    let f1 = rw (c.len.ensures ∙ c.args.report.now.points.ok.0) at c.put_title.ensures in
    let f2 = rw c.full_count.ensures at c.put_title-2.ensures in
    then (then f1 f2) (rw c.hull_count.ensures at c.put_title-3.ensures)
