use Rattle.text_sheets.proofs.Cited.{then}
use Rattle.near_texts.proofs.texts.put_near_line.Goals as goal

pub returns : goal.returns
returns g c =
    let index = rw c.index.ensures at c.put_number_and.ensures in
    then (then index c.put_number.ensures) c.put.ensures
