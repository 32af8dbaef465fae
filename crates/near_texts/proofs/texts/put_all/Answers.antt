use Rattle.text_sheets.proofs.Cited.{then}
use Rattle.near_texts.specs.Text.{near_text}
use Rattle.near_texts.proofs.texts.put_all.Goals as goal

pub returns : goal.returns
unfolding near_text
returns g c =
    let nears = rw c.new.ensures at c.put_nears.ensures in
    then (then c.put.ensures nears) c.put-2.ensures
