use Rattle.text_sheets.proofs.Cited.{then}
use Rattle.solid_parts.proofs.texts.put_size.Goals as goal

pub returns : goal.returns
returns g c =
    then (then (then (then c.put.ensures c.put_number.ensures) c.put-2.ensures) c.put_number-2.ensures) c.put-3.ensures
