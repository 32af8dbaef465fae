use Rattle.std.proofs.Common.{◌∙◌}
use Rattle.text_sheets.proofs.Cited.{then}
use Rattle.mesh_files.proofs.rows.put_face.Goals as goal

pub returns : goal.returns
returns g c =
    let f2 = rw (c.as_bytes.ensures.value ∙ c.word_of.ensures) at c.put.ensures in
    then (then c.put_indices.ensures f2) c.put-2.ensures
