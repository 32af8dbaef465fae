use Rattle.text_sheets.proofs.Sheets.{then}
use Rattle.text_sheets.proofs.lines.put_number_and.Goals as goal

pub returns : goal.returns
returns g c =
    then c.put_number.ensures c.put.ensures
