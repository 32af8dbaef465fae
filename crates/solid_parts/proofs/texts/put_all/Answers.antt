use Rattle.text_sheets.proofs.Cited.{then}
use Rattle.solid_parts.specs.Text.{sizes_text}
use Rattle.solid_parts.proofs.texts.put_all.Goals as goal

pub returns : goal.returns
unfolding sizes_text
returns g c =
    then (then (then (then (then c.put.ensures c.put-2.ensures) c.put_number.ensures) c.put-3.ensures)
    c.put_sizes.ensures) c.put-4.ensures
