use Rattle.text_sheets.proofs.Sheets.{then}
use Rattle.text_sheets.proofs.lines.put_title.Goals as goal

pub returns : goal.returns
returns g c =
    then (then (then c.put.ensures c.put-2.ensures) c.put_number.ensures) c.put-3.ensures
