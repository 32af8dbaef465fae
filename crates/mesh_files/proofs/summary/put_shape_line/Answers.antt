use Rattle.text_sheets.proofs.Cited.{then}
use Rattle.mesh_files.proofs.summary.put_shape_line.Goals as goal

pub returns : goal.returns
returns g c =
    then c.put.ensures (rw (c.pair_count.ensures, c.triple_count.ensures, c.cell_count.ensures) at c.put_four.ensures)
