use Rattle.std.proofs.Common.{◌∙◌}
use Rattle.text_sheets.proofs.Cited.{then}
use Rattle.mesh_files.proofs.report.put_reply.Goals as goal

pub returns : goal.returns
returns g c =
    let f1 = rw (c.as_bytes.ensures.value ∙ c.word_of.ensures) at c.put.ensures in
    then f1 c.put-2.ensures
