use Rattle.std.proofs.Common.{◌∙◌}
use Rattle.mesh_files.specs.Summary.{summary_text}
use Rattle.text_sheets.proofs.Cited.{then}
use Rattle.mesh_files.proofs.summary.put_summary.Goals as goal

pub returns : goal.returns
unfolding summary_text
returns g c =
    let f1 = rw (c.len.ensures ∙ c.args.report.now.replies.ok.0) at c.put_title.ensures in
    let f2 = rw c.deref.ensures.value at c.put_reply_counts.ensures in
    then (then (then f1 f2) c.put_mesh_counts.ensures) (rw c.deref-2.ensures.value at c.put_shape_lines.ensures)
