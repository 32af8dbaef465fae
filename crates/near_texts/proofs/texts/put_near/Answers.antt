use Rattle.std.proofs.Common.{◌≡◌, ◌∙◌, rules}
use Rattle.text_sheets.proofs.Cited.{closed, closed_cause, closed_front, went_well}
use Rattle.near_texts.proofs.texts.put_near.Goals as goal

pub returns : goal.returns
returns g c =
    let name = c.close.ensures.lent ∙ c.put_all.ensures.lent ∙ c.new-sheet.ensures.lent in
    let left : c.close.new.self.out.now ≡ c.out-1.given.0 = search (rules, name) in
    let cause = closed_cause c.close.result left c.new-sheet.ensures c.put_all.ensures c.close.ensures in
    record {
      whole = closed c.close.result left c.new-sheet.ensures c.put_all.ensures c.close.ensures;
      front = closed_front c.close.result left c.new-sheet.ensures c.put_all.ensures c.close.ensures;
      cause = cause;
      done = went_well c.close.result cause;
    }
